-- What the proofs share: how long a line and its fields are, numbers side by side in one, and a field as a word. And that a
-- line can be read in one way only.
pub mod Length
pub mod Lanes
pub mod Fields
pub mod Legible
