pub mod Faults
pub mod Objects
pub mod Checks
pub mod Calls
pub mod Laws
