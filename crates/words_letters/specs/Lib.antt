pub mod EventLetters
