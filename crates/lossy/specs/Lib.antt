pub mod Arrive
pub mod Carry
