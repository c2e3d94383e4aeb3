pub mod Twins
pub mod Frames
pub mod Owning
pub mod Runs
pub mod Agreement
pub mod Worked
