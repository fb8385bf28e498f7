-- The text of an entry.
pub mod Texts
