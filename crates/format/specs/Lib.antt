-- The file's definitions, both ways.
pub mod Numbers
pub mod Fields
pub mod Rows
pub mod Fitting
pub mod Values
pub mod Entries
pub mod Files
