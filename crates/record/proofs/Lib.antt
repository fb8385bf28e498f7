-- What the proofs share: entries in turn, records and lists, replays, what the calls answer, and what they do to the list.
pub mod Turns
pub mod Lists
pub mod Replays
pub mod Calls
pub mod Following
