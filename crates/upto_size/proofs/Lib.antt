pub mod Labels
pub mod Sizes
