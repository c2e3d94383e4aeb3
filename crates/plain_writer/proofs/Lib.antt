pub mod Writes
pub mod Purging
pub mod PurgeBytes
