-- What the proofs share: what a source gives, and fields one behind the other, put.
pub mod Read
pub mod Put
