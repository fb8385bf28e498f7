-- A record at the front of a buffer.
pub mod Front
