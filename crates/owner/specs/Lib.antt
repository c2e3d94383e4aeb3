pub mod Shown
pub mod Purging
pub mod Claims
