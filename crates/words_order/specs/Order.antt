-- Dictionary order of words, which is lexicographic order of lists of numbers: a list that begins a
-- longer one comes before it.
--
--   Before u v      u comes before v
--   precedes u v    the same as a test
--   lesser u v      the smaller of two lists; on equality the first
--   same u v        the two lists are the same, as a test
use Rattle.std.specs.Prelude.{◌≡◌, ◌⊎◌, Bool, true, false, cond, List, [], ◌∷◌, ℕ, ◌<◌, eqb, ltb}

abbrev pub Before : List ℕ → List ℕ → Type 0
Before u [] = ⊥
Before [] (y ∷ v) = Unit {0}
Before (x ∷ u) (y ∷ v) = (x < y) ⊎ ((x ≡ y) × Before u v)

abbrev pub precedes : List ℕ → List ℕ → Bool
precedes u [] = false
precedes [] (y ∷ v) = true
precedes (x ∷ u) (y ∷ v) = cond (ltb x y) true (cond (eqb x y) (precedes u v) false)

abbrev pub lesser : List ℕ → List ℕ → List ℕ
lesser u v = cond (precedes v u) v u

abbrev pub same : List ℕ → List ℕ → Bool
same [] [] = true
same [] (y ∷ v) = false
same (x ∷ u) [] = false
same (x ∷ u) (y ∷ v) = cond (eqb x y) (same u v) false
