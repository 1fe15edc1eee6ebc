pub mod Differences
pub mod SmallLevels
