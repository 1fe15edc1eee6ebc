pub mod Lists
pub mod Holding
pub mod Undone
pub mod Laws
