pub mod Chains
pub mod Serving
pub mod Objects
pub mod Segments
pub mod Ports
pub mod Runs
