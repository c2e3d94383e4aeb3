pub mod FieldLaws
pub mod Served
pub mod ReadBack
