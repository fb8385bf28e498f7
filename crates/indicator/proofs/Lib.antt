-- What the proofs share: bytes as a reading, and a reading's net.
pub mod Bytes
pub mod Nets
pub mod Four
