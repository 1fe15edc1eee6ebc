pub mod Diagram
pub mod Conditions
