pub mod Halving
pub mod Claims
