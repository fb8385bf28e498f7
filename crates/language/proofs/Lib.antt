-- What the proofs share: the words of a line, the entry that a line can be, and what a line says. And that the language is what
-- the definition has, both ways.
pub mod Values
pub mod Candidates
pub mod Said
pub mod Exactly
