-- What the proofs share: a sheet with the longest placard.
pub mod Lengths
