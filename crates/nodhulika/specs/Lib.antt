-- What the exported functions answer in bytes.
pub mod Exported
