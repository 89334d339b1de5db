pub mod Answer
pub mod Status
pub mod State
pub mod Connectors
pub mod Step
