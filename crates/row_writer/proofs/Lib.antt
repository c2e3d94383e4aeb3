pub mod Writes
pub mod Over
pub mod Joined
