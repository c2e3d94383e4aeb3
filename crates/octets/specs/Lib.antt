pub mod Parts
pub mod BigEndian
pub mod Compare
pub mod Words
