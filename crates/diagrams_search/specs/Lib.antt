pub mod Search
pub mod Lower
