pub mod Follows
pub mod Places
pub mod Backwards
pub mod Forwards
pub mod Padding
pub mod Branches
