-- Lemmas with nothing of gliders in them.
pub mod Tests
pub mod Lists
pub mod Written
pub mod Puts
pub mod Begun
pub mod Spelled
pub mod Bytes
pub mod Splits
pub mod Options
pub mod Slopes
pub mod Division
pub mod Equal
pub mod Z
pub mod Floor
pub mod Sides
pub mod Rising
pub mod Nearest
