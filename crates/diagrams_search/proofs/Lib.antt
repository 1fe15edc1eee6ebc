pub mod Searching
pub mod Lowering
