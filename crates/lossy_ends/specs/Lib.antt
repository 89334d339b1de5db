pub mod Both
pub mod Called
pub mod Ends
pub mod Over
