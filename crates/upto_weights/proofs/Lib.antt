pub mod Rule
pub mod Passing
pub mod Bound
