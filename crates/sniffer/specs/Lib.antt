pub mod Passing
pub mod Reporting
pub mod Adding
pub mod Sniffing
