pub mod Ranges
pub mod Tables
pub mod NumberTables
pub mod RunTables
pub mod Soundness
pub mod Storing
