pub mod Answers
pub mod Shares
pub mod Holding
pub mod Valid
pub mod Calls
pub mod Changes
pub mod Taken
