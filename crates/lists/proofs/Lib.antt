pub mod Tests
pub mod Lists
pub mod Ranges
pub mod Searches
pub mod Copies
pub mod Overwriting
