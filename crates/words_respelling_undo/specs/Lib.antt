pub mod SpelledSoFar
