pub mod Framed
pub mod Parts
pub mod Answers
pub mod Storing
pub mod Told
