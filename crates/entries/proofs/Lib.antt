-- What the proofs share: the rows of the table, and what is taken off the front of some bytes.
pub mod Rows
pub mod Taking
