-- Where an arm is found, how much an arm's equipment comes to, an element put before others, and one entry more.
pub mod Places
pub mod Nets
pub mod Shifted
pub mod Notes
