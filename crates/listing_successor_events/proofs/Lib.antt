pub mod Cases
pub mod Ends
pub mod Events
