-- What the proofs share: the paper's lines for a number of steps, by what the code carries.
pub mod Laws
