-- What the proofs share: a buffer that holds a list, and what the calls answer.
pub mod Fronts
pub mod Answers
