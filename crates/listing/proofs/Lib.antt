pub mod Completions
pub mod Listing
pub mod Ranking
pub mod Examples
pub mod Positions
pub mod InPlace
pub mod Spelled
