-- What is in force, as the code carries it.
pub mod InForce
