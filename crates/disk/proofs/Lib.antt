pub mod Layers
pub mod Follows
