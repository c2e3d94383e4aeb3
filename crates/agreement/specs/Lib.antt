pub mod Calls
pub mod Agreement
pub mod Worked
