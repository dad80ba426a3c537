pub mod Programs
pub mod Ends
pub mod Spends
