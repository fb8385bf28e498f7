pub mod RecordCalls
pub mod LibraryCalls
pub mod Stations
