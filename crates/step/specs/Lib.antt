pub mod Answer
pub mod Change
pub mod Step
