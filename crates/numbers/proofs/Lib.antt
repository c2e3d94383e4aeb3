pub mod Differences
pub mod OrderLaws
pub mod LeftLaws
