pub mod Rows
pub mod Inverse
