pub mod Scripts
pub mod Table
