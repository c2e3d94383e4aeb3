pub mod Hexadecimal
pub mod Numbers
