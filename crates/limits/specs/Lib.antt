-- The front seat, and which steps in it keep the limits.
pub mod Seats
