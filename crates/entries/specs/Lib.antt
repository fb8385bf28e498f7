-- What taking an entry off the front of some bytes finds.
pub mod Taking
