pub mod RowLaws
pub mod OneRow
pub mod Heads
