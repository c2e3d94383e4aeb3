pub mod Leading
pub mod Positions
