pub mod Tables
pub mod Accepted
pub mod Names
pub mod Rows
pub mod Padding
pub mod Fitting
pub mod Neighbours
pub mod Reading
