pub mod Words
pub mod Verdict
pub mod Valid
pub mod Calls
pub mod Handed
