pub mod First
pub mod Holding
pub mod Recording
pub mod Tables
pub mod Waiting
