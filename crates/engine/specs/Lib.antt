pub mod Engine
pub mod Alike
pub mod Config
