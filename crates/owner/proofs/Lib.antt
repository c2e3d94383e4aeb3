pub mod Making
pub mod Reading
pub mod Activating
pub mod Tells
