-- What the proofs share: how many changes a list can have behind its last weighing, a list with the most, and entries in turn.
pub mod Few
pub mod Full
pub mod Turns
