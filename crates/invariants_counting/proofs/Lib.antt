pub mod FixedEdges
pub mod Walks
pub mod Counts
