-- The listing of a record.
pub mod Listings
