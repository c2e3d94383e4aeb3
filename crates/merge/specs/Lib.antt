pub mod Writes
pub mod Merge
