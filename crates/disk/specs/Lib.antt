pub mod Paths
pub mod Laid
pub mod Files
pub mod Requests
pub mod Rules
pub mod Pages
pub mod Follows
