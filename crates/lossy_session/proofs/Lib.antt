pub mod Starts
pub mod Numbers
pub mod Passes
pub mod Judges
pub mod Unique
