pub mod Order
pub mod Insert
pub mod Purge
pub mod Ordered
pub mod Claims
pub mod Damage
