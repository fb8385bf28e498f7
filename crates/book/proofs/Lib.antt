-- What the proofs share: the line that takes its turn, and the text up to a line. And that a logbook comes to the journal of
-- its calls.
pub mod Turns
pub mod Places
pub mod Journals
