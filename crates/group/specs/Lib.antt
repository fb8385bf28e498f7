-- The rows of a placard by their number, and what they have in common.
pub mod Numbered
pub mod Shared
