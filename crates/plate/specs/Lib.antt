-- How long a placard can be.
pub mod Longest
