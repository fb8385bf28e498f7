-- What the proofs share: the parts of a file, its header judged, entries read in turn, and a judgement of the next.
pub mod Parts
pub mod Headers
pub mod Reading
pub mod Judging
