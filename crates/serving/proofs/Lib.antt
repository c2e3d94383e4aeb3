pub mod Gated
pub mod Formed
pub mod Kept
pub mod Statuses
pub mod Change
pub mod Sound
pub mod Clock
pub mod SameAsk
