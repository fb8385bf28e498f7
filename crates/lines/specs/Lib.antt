-- What a call writes of a record into a buffer.
pub mod Written
