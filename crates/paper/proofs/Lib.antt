-- Laws about the definitions, for the proofs of every crate above.
pub mod Units
pub mod Numbers
pub mod Changes
pub mod Seats
pub mod Weighings
pub mod Lists
pub mod Calls
pub mod Feeding
