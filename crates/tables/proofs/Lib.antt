pub mod Searching
pub mod Tables
pub mod Calls
pub mod RecordLaws
