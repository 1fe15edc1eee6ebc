pub mod Midlist
