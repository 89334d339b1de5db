pub mod Phase
pub mod Answer
pub mod Step
pub mod Session
