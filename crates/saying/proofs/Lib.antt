pub mod Pieces
pub mod Decimals
pub mod Texts
pub mod Cases
pub mod Unique
