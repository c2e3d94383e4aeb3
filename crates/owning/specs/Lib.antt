pub mod Owner
pub mod Claims
