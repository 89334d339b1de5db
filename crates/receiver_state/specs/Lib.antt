pub mod Phase
pub mod Answer
pub mod Session
pub mod Sum
