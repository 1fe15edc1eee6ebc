pub mod Upto
pub mod Visits
