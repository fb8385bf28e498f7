-- The list that a record holds, the record of a list, and what each call answers.
pub mod Held
