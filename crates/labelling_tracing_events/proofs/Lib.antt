pub mod Stamps
pub mod Underway
