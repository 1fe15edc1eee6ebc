pub mod Multiples
pub mod Divisors
pub mod Holding
