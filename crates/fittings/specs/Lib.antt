-- What is known of the equipment.
pub mod Fittings
