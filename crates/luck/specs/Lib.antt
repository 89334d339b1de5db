pub mod Way
pub mod Luck
pub mod Called
pub mod Went
