pub mod Entries
pub mod Others
