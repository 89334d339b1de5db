pub mod Record
pub mod Reading
pub mod Writing
pub mod Apart
