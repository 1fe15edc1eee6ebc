pub mod Example
pub mod Kept
pub mod Lengths
