pub mod Frames
pub mod Turning
pub mod Walking
pub mod Opening
