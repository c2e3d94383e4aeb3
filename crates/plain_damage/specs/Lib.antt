pub mod Print
pub mod Distinct
