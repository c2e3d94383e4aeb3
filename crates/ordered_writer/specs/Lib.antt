pub mod Insertion
pub mod Gaps
pub mod Claims
