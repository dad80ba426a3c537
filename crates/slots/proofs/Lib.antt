pub mod Lays
pub mod Outs
