-- What the proofs share: the header as it is put, and as it is judged.
pub mod Putting
pub mod Judging
