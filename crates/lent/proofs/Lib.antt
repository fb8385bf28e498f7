-- What the proofs share: a file changed in place, and what the calls answer.
pub mod Changed
pub mod Answers
