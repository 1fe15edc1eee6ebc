-- Lists that an operation writes to: an accepted write fills the first places it needs, and the rest is untouched.
-- Lists named a are as they were lent, lists named b as they are handed back.
--
--   Short n a0 a1 aw    an output list is short for a diagram of n edges and its word: n, n, and n + 1 (refusal 9)
--   Written D w ..      the lists hold the diagram D and the word w, and after them what they held
--   Untouched ..        the lists are as they were
use Rattle.std.specs.Prelude.{◌≡◌, ◌⊎◌, List, ℕ, suc, ◌<◌, length}
use Rattle.words.specs.Word.{Pair}
pub use Rattle.lists.specs.Overwriting.{overwrite}
unfoldable pub use Rattle.lists.specs.Overwriting.{overwrite_from}

abbrev pub Short : ℕ → List ℕ → List ℕ → List ℕ → Type 0
Short n a0 a1 aw = (length a0 < n) ⊎ ((length a1 < n) ⊎ (length aw < suc n))

pub record Written (D : Pair) (w a0 a1 aw b0 b1 bw : List ℕ) : Type 0 where
  pub s0_written : b0 ≡ overwrite D.black a0
  pub s1_written : b1 ≡ overwrite D.white a1
  pub word_written : bw ≡ overwrite w aw

pub record Untouched (a0 a1 aw b0 b1 bw : List ℕ) : Type 0 where
  pub s0_same : b0 ≡ a0
  pub s1_same : b1 ≡ a1
  pub word_same : bw ≡ aw
