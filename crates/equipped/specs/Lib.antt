-- The equipment that is found in a file.
pub mod Equipped
