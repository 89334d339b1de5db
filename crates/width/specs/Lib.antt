pub mod Narrow
pub mod Halves
pub mod Words
