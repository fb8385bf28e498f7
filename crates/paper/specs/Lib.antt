-- Paper 01, as the cards of paper 02 have changed it, as definitions: a module for each of its headings, in its order, with
-- equipment by station and the indicator where they are needed.
pub mod Units
pub mod Numbers
pub mod Record
pub mod Equipment
pub mod Rows
pub mod Placard
pub mod File
pub mod Indicator
pub mod Refusals
pub mod Answers
pub mod Journal
