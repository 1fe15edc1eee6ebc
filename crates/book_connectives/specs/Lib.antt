pub mod Connectives
