pub mod Run
pub mod Turn
pub mod On
