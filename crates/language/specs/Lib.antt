-- The logbook's language.
pub mod Lines
