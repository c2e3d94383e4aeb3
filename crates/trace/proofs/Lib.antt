pub mod Fields
pub mod Modes
