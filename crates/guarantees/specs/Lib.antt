-- What is guaranteed, on one page.
pub mod Guarantees
