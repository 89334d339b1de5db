pub mod Codes
pub mod Table
pub mod Control
