-- Two readings.
pub mod Readings
