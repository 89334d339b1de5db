pub mod Lowest
pub mod Unique
