-- The values of a kind's fields.
pub mod Values
