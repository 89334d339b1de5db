pub mod Bench
pub mod Digits
pub mod Texts
pub mod Unique
