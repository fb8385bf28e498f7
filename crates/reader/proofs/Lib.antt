-- What the proofs share: an entry kept or not, and the entry at a place.
pub mod Kept
pub mod Places
