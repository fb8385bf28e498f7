-- What the proofs share: numbers with decimals as they are written, the lines of a list and how long they are, its sums, and what
-- the call answers. And some cases, worked out.
pub mod Fixed
pub mod Lines
pub mod Totals
pub mod Answers
pub mod Cases
