pub mod Sofar
pub mod Tracked
