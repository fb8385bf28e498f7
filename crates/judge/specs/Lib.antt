-- What stands, and what a judgement says.
pub mod Standing
