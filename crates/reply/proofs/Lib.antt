pub mod Replies
pub mod Frames
