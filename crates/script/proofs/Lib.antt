-- What the proofs share: the number of a text's digits, one digit on and at their end.
pub mod Digits
