-- The schedule of equipment.
pub mod Schedules
