pub mod Order
pub mod Expiry
pub mod Growth
pub mod Claims
