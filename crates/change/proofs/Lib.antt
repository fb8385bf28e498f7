-- What the proofs share: what is asked of a change, and how large a moment is.
pub mod Changes
pub mod Products
