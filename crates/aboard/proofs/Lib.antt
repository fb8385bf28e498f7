-- What the proofs share: what a sum stands for.
pub mod Standing
