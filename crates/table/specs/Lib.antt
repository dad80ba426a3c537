pub mod Keys
pub mod Maps
pub mod Held
pub mod Slots
pub mod Of
