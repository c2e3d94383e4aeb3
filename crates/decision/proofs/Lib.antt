pub mod Writing
pub mod MergingLaws
pub mod Stores
