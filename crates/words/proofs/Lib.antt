-- What the proofs share: two's complement, and a number put into a part of a slice.
pub mod Signs
pub mod Parts
