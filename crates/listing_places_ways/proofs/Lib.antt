pub mod EventBlocks
pub mod Choices
pub mod Passing
