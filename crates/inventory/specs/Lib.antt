-- How many arms a record can have.
pub mod Most
