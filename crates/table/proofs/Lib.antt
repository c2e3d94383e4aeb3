pub mod Damage
pub mod Placed
pub mod Rows
pub mod Engines
pub mod Looking
pub mod Keeping
pub mod Listing
