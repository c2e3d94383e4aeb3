pub mod Sorting
pub mod Taken
pub mod Members
pub mod LiveKeys
pub mod Exact
pub mod Paging
pub mod Writing
