-- Whole numbers as words of text.
pub mod Numerals
