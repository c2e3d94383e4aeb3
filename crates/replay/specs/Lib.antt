pub mod Replay
pub mod Turns
