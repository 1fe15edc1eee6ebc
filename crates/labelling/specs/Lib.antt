pub mod Labelling
pub mod Rootings
