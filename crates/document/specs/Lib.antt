pub mod Documents
pub mod Stored
pub mod Head
