pub mod PlainLaws
pub mod Places
pub mod TableLaws
pub mod ChangeLaws
pub mod Rows
pub mod Checks
pub mod Placing
