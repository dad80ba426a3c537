pub mod Of
pub mod Adds
pub mod Parts
