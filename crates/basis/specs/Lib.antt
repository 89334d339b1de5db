pub mod Pick
pub mod Left
pub mod Only
pub mod Lists
pub mod Table
pub mod Bytes
pub mod Flag
