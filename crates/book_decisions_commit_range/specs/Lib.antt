pub mod CommitRanges
