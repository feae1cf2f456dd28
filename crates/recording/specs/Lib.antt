pub mod Gathering
pub mod Lines
pub mod Meaning
pub mod Playing
pub mod Reading
pub mod Spelling
