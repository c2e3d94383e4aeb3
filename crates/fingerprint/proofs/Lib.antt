pub mod Mixing
pub mod Buckets
