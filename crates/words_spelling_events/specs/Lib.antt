pub mod States
pub mod Spelling
