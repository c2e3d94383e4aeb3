pub mod EngineLaws
pub mod Tables
pub mod Checks
