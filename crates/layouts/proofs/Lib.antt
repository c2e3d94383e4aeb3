pub mod EitherLayout
pub mod FormerRefused
