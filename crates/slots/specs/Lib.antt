pub mod Told
pub mod Views
pub mod Plans
pub mod Codes
pub mod FileSteps
