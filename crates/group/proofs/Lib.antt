-- What the proofs share: the rows by their number, and the lines in the buffer.
pub mod Rows
pub mod Buffer
