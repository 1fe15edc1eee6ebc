pub mod Passing
pub mod Words
