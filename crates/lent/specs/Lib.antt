pub mod Put
pub mod Outcome
pub mod Written
pub mod Sent
