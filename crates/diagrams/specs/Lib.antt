pub mod Diagram
pub mod Isomorphism
pub mod Check
pub mod Held
