-- One row more of the columns, and what the call answers.
pub mod Columns
pub mod Answers
