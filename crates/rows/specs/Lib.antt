pub mod Row
pub mod Table
pub mod RowRules
pub mod Good
pub mod Find
