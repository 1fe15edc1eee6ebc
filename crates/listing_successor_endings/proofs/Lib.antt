pub mod Endings
pub mod Padding
