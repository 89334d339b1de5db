pub mod Answers
pub mod Carry
pub mod Run
