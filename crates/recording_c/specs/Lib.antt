pub mod Layout
pub mod Reads
pub mod Writes
pub mod Lines
