pub mod Cases
pub mod Padding
pub mod Raises
pub mod Branches
