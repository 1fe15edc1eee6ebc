-- The word that follows a word, as the code holds it.
--
--   Next                      (declared by listing_successor_endings) a word in the first places of 51, and its length
--   SuccessorPromise n w r    r holds the word that follows w among the words of size n
use Rattle.std.specs.Prelude.{◌≡◌, List, ℕ, length}
pub use Rattle.listing_successor_endings.specs.declared.Next.{Next}
use Rattle.listing_successor.specs.Successor.{successor, padded_word}

pub record SuccessorPromise (n : ℕ) (w : List ℕ) (r : Next) : Type 0 where
  pub length_is : r.length ≡ length (successor n w)
  pub items_are : r.items ≡ padded_word (successor n w)
