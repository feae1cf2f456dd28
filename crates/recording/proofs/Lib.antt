pub mod Couples
pub mod Hearing
pub mod Kept
pub mod Spelled
pub mod Splits
pub mod Steps
