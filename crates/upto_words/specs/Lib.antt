pub mod Within
pub mod Successor
