-- A record lent as its file at the front of a buffer.
pub mod Lent
