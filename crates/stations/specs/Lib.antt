-- One change more at an arm.
pub mod More
