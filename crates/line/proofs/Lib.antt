pub mod Sent
pub mod Widths
pub mod AnyLine
pub mod Clean
pub mod Carried
pub mod Course
pub mod Rest
pub mod Demand3
