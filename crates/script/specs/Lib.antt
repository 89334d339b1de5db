pub mod Words
pub mod Heading
pub mod Digits
pub mod Decimal
pub mod Fields
pub mod Runs
pub mod Spelling
