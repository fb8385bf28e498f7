-- What the proof rests on: the call's answer with a balance and without.
pub mod Answers
