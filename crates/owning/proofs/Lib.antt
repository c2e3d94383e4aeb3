pub mod Activating
