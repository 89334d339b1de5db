pub mod Turn
pub mod Step
pub mod Replay
pub mod Part
pub mod Parts
