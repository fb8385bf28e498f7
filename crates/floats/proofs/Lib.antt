-- What the proofs share: what a float's pattern says of its value, and the floats that are loads.
pub mod Patterns
pub mod Loads
