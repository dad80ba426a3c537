pub mod Told
pub mod Replay
pub mod Same
