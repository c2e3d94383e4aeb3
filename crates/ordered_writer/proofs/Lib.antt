pub mod Moving
pub mod Closing
pub mod Inserting
pub mod Purging
