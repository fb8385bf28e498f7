-- What is in force of a list, and that it was accepted.
pub mod Lists
