pub mod Texts
pub mod Steps
pub mod Sizes
pub mod Agrees
pub mod Items
