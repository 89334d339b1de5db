pub mod Refusal
pub mod Start
pub mod Clock
pub mod Pass
pub mod Judge
