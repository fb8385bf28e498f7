-- What the reader gives.
pub mod Reading
