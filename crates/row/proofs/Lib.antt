-- The paper's row by half-planes.
pub mod Solved
