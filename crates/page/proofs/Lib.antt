-- What the proofs share: the lines from none to all, and what the call answers.
pub mod Whole
pub mod Answers
