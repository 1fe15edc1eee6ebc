pub mod Within
pub mod Reading
pub mod Follows
