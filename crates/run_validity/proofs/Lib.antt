pub mod Validity
pub mod Standing
pub mod Runs
