-- The diagrams of a block, one after another: those at the positions p + 1, .., p + k of size n.
--
--   blacks n p k       their black lists
--   whites n p k       their white lists
--   flat_words n p k    their words
--   lengths n p k      the lengths of their words
use Rattle.std.specs.Prelude.{List, [], ◌∷◌, ◌++◌, ℕ, zero, suc, ◌+◌, length}
use Rattle.listing.specs.Position.{word_at}
use Rattle.listing.specs.Diagrams.{diagram_at}

unfoldable pub blacks : ℕ → ℕ → ℕ → List ℕ
blacks n p zero = []
blacks n p (suc k) = blacks n p k ++ (diagram_at n (suc (p + k))).black

unfoldable pub whites : ℕ → ℕ → ℕ → List ℕ
whites n p zero = []
whites n p (suc k) = whites n p k ++ (diagram_at n (suc (p + k))).white

unfoldable pub flat_words : ℕ → ℕ → ℕ → List ℕ
flat_words n p zero = []
flat_words n p (suc k) = flat_words n p k ++ word_at n (suc (p + k))

unfoldable pub lengths : ℕ → ℕ → ℕ → List ℕ
lengths n p zero = []
lengths n p (suc k) = lengths n p k ++ (length (word_at n (suc (p + k))) ∷ [])
