pub mod Validity
pub mod Standing
