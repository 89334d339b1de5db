pub mod Arrives
pub mod Unique
