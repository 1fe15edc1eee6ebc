pub mod Stores
pub mod EventLaws
