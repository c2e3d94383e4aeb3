pub mod Header
pub mod Layout
