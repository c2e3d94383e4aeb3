pub mod Gated
pub mod Outcomes
