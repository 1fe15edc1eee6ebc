pub mod Cardinals
pub mod Cycles
pub mod Carried
pub mod Levels
pub mod LevelBound
pub mod Orders
pub mod InvariantsIsomorphic
pub mod Examples
