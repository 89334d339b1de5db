pub mod WordLaws
pub mod Turns
pub mod Mid
pub mod Cases
pub mod Unique
