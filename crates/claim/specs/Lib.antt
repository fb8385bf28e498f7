-- Demand 3 and what its proof rests on: one call more of a list, how a placard call ends, and what a given placard prints. Then
-- the claims about every list of calls: on a record; and of the library to link, with what a lent buffer holds on the way; and
-- the records that lists of calls give.
pub mod Calls
pub mod Endings
pub mod Printed
pub mod Demand3
pub mod RecordCalls
pub mod Buffers
pub mod LibraryCalls
pub mod Records
pub mod Carrying
