pub mod Engines
pub mod Damage
pub mod Claims
