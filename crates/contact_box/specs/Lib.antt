pub mod Arguments
pub mod Recorder
pub mod Session
