pub mod Walking
pub mod Listed
