-- Paper 01's worked cases.
pub mod Plates
pub mod Equal
pub mod Search
pub mod Table
pub mod Cases
pub mod Stations
pub mod Indicator
