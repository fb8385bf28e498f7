-- What a row's search finds, what the ends of the water and of a seat decide, and what a row prints.
pub mod Searches
pub mod Water
pub mod Lines
pub mod Arms
pub mod HalfPlanes
pub mod Convex
pub mod Ends
pub mod Rows
