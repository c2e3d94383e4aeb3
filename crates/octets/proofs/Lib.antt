pub mod Choices
pub mod Lists
pub mod Numbers
pub mod Tests
pub mod Words
pub mod Options
