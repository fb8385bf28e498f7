-- How long a file may be, and the record that is read back.
pub mod Longest
pub mod Found
