pub mod Passes
pub mod Buckets
pub mod Prints
