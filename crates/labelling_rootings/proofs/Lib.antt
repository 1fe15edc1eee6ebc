pub mod NotLeast
pub mod Moving
pub mod Tried
