pub mod Serving
pub mod Spelling
pub mod Forcing
pub mod Recorded
pub mod Alike
