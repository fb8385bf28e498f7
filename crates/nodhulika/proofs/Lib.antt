-- What the proofs share: signed numbers, numbers in an answer's buffer, and what the calls answer into it.
pub mod Signed
pub mod Into
