-- What the proofs share: the longest file, the bytes of a record's entries, what is written in all, a record read back, and
-- the round trips.
pub mod Lengths
pub mod Slots
pub mod Writing
pub mod Reading
pub mod RoundTrips
