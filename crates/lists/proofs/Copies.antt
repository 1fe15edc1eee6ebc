-- The step of a loop that fills a list from its beginning on: the entries so far, then the rest of the target, one entry further on.
use mathlib.Core.Path.{◌≡◌, ◌∙◌}
use mathlib.Core.List.{List, [], ◌∷◌, ◌++◌, append_assoc}
use Prim.Native.Nat.{ℕ, suc, ◌+◌, ◌≤◌, ◌<◌}
use native.Mathlib.Omega.{arith}
use native.Mathlib.Numerals.{add-one}
use lib.Seq.{drop-cons, take-suc, set_at, length-take-le}
use lib.ListN.{length, get_or, set, take, drop, length-append, length-drop}

pub written-more : (d p : List ℕ) (i v : ℕ) → length p ≡ i → i < length d → set (p ++ drop i d) i v ≡ (p ++ (v ∷ [])) ++ drop (i + 1) d
written-more d p i v e h = rw (drop-cons d i 0 h, set_at p (get_or d i 0) (drop (suc i) d) v i e, add-one, append_assoc)

pub written-length : (d p : List ℕ) (i : ℕ) → length p ≡ i → i ≤ length d → length (p ++ drop i d) ≡ length d
written-length d p i e h = simp (length-append, length-drop) (omega arith)

-- the entries so far are those of a source s
pub copied_more : (d s : List ℕ) (i : ℕ) → i < length d → i < length s → set (take i s ++ drop i d) i (get_or s i 0) ≡ take (i + 1) s ++ drop (i + 1) d
copied_more d s i hd hs = written-more d (take i s) i (get_or s i 0) (length-take-le i s (omega arith)) hd ∙ rw (add-one, take-suc s i 0 hs)
