pub mod Lines
pub mod Endings
