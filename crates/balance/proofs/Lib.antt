-- What the proofs share: the rounding of the centre of gravity.
pub mod Rounding
