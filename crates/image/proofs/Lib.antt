pub mod Parts
pub mod Adding
pub mod Laws
pub mod Whole
pub mod Unique
