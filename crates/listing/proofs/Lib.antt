-- What the proofs share: half grams as they are written, a comment's parts, which entries are readable, how long a listing
-- is, that of one entry more, also out of a record's slots, and what the call answers. And that a listing,
-- read again, is the same record.
pub mod Halves
pub mod Comments
pub mod Readables
pub mod Sizes
pub mod Turns
pub mod Slots
pub mod Answers
pub mod ReadAgain
