pub mod Reply
pub mod Serve
pub mod Serves
pub mod Clock
pub mod Statuses
