pub mod Printing
pub mod Signs
pub mod Words
