pub mod Adding
pub mod Appending
pub mod Judging
