pub mod Successor
pub mod Reading
pub mod Promises
