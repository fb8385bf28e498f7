-- What the proofs share: the conditions of a reading, and its moment by method.
pub mod Conditions
pub mod Moments
