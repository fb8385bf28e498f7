-- What the proofs share: spans narrowed, and the row of the multiples in one.
pub mod Spans
