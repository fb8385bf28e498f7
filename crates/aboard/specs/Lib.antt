-- What is carried from row to row, and what it stands for.
pub mod Sides
pub mod Aboard
