pub mod Gates
pub mod Joint
pub mod Stepping
