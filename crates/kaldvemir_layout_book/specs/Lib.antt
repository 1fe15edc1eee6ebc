pub mod Layout
pub mod Inverse
