-- What the proofs share, what an accepted sheet keeps to, and the sheet in force of a list.
pub mod Laws
pub mod Accepted
pub mod Lists
