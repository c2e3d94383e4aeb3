pub mod Greatest
pub mod Run
pub mod Demand3
