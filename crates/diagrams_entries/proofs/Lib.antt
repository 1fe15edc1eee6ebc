pub mod Answers
pub mod Diagrams
