-- What the proofs share: what a judgement rests on, a list with one entry more, and the lists that calls give.
pub mod Judging
pub mod Following
pub mod Accepted
pub mod Weighed
