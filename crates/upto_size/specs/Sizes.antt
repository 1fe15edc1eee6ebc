-- The size of the diagram that a list spells, where it is one of 1..n.
--
--   SizePromise n w r    r is the size of the diagram of the word w, one of 1..n; 0 where w is no word of such a size
use Rattle.std.specs.Prelude.{◌≡◌, ◌≢◌, List, ℕ}
use Rattle.lists.specs.Ranges.{OneTo}
use Rattle.words.specs.Shape.{Word}

pub record SizePromise (n : ℕ) (w : List ℕ) (r : ℕ) : Type 0 where
  pub sized : r ≢ 0 → OneTo n r × Word r w
  pub none : r ≡ 0 → (m : ℕ) → OneTo n m → ¬ Word m w
