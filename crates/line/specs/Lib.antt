-- A field as a word.
pub mod Word
