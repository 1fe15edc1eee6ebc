pub mod Laws
pub mod Reverse
pub mod Walks
