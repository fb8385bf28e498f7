-- The logbook.
pub mod Books
pub mod Failures
