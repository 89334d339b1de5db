pub mod Room
pub mod Laws
pub mod Front
pub mod Unique
pub mod Sent
