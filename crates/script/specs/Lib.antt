-- The numbers and the bytes that a case's digits are.
pub mod Digits
