pub mod WithMeta
pub mod Section
pub mod FieldRules
pub mod Claims
