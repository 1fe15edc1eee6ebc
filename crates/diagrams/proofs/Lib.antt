pub mod Diagrams
pub mod Isomorphisms
pub mod Checks
pub mod Holding
pub mod Examples
