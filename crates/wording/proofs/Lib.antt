-- What the proofs share: an entry's text in its parts, and how long and of which bytes it is.
pub mod Parts
pub mod Plain
