-- What the proofs share: decimal digits, how many a number takes, the number of some digits, numbers on either side of 0, and
-- numerals read back.
pub mod Digits
pub mod Lengths
pub mod Sizes
pub mod Signs
pub mod Words
