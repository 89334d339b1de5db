pub mod Laws
pub mod Truth
