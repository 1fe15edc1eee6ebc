pub mod Held
pub mod Promised
