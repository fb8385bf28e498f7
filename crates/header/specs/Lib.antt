-- The header of a file, and its versions.
pub mod Versions
pub mod Header
