pub mod Said
pub mod Hex
pub mod Decimal
pub mod Look
