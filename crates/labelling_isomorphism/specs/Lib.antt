pub mod Isomorphic
