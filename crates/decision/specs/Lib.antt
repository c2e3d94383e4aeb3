pub mod Decision
pub mod Decide
pub mod Merging
pub mod Claims
