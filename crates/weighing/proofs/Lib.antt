-- What the proofs share: the distances of two readings.
pub mod Distances
