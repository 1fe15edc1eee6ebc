pub mod ReadingLaws
pub mod Spelling
pub mod Examples
