pub mod Order
pub mod Upto
pub mod Visits
pub mod Examples
