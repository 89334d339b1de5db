pub mod Phases
pub mod Turn
pub mod On
pub mod Begin
pub mod Starts
pub mod Laws
pub mod Unique
