pub mod Axes
pub mod Layers
pub mod Soundness
