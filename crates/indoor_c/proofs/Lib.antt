pub mod Rows
pub mod Sessions
pub mod Inverse
pub mod Wide
pub mod Counting
pub mod Widths
pub mod Indoors
pub mod Unique
