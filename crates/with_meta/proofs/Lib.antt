pub mod SectionLaws
pub mod Layouts
pub mod StoredLaws
