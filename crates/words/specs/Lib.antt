pub mod Answers
pub mod Word
pub mod Order
pub mod Shape
pub mod Letters
pub mod Outputs
