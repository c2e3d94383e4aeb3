pub mod Lookup
pub mod Damage
pub mod Plain
pub mod Claims
pub mod Purge
