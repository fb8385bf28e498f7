-- How the code's numbers stand for the paper's.
pub mod Balance
