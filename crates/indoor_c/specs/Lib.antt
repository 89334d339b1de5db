pub mod PhaseWords
pub mod Words
pub mod Valid
pub mod Calls
pub mod Counting
pub mod Handed
