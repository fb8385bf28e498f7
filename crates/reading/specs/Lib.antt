-- What a reading says.
pub mod Readings
