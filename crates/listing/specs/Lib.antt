pub mod Listing
pub mod Position
pub mod Ranking
pub mod Diagrams
