-- What the grams of a float are.
pub mod Grams
