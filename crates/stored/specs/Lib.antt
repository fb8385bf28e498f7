-- What is found in a file, and what is known on the way.
pub mod Found
pub mod Walks
