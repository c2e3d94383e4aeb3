pub mod OrderLaws
pub mod InsertLaws
pub mod PurgeLaws
pub mod OrderedLaws
