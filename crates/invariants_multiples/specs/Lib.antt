pub mod Multiples
