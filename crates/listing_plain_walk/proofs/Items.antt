-- Items of a word that are written one by one from a place on.
use mathlib.Core.Path.{◌≡◌, sym, ap, ◌∙◌}
use mathlib.Core.List.{List, [], ◌∷◌}
use Prim.Native.Nat.{ℕ, ◌+◌, ◌≤◌, ◌<◌}
use native.Mathlib.Numerals.{add-one}
use native.Mathlib.Omega.{arith}
use lib.ListN.{length, get_or, set, take}
use lib.Seq.{take-suc, length-take-le}
use Rattle.lists.specs.Overwriting.{overwrite_from}
use Rattle.lists.proofs.Overwriting.{from_one, from-length, from-from}

-- the list d with the first k items of w written over it from place i on, and one more
pub items-more : (d w e : List ℕ) (i k n : ℕ) → i + n ≤ length d → n ≤ length w → k < n → e ≡ overwrite_from i (take k w) d
    → set e (i + k) (get_or w k 0) ≡ overwrite_from i (take (k + 1) w) d
items-more d w e i k n h m l q =
    sym (from_one (i + k) (get_or w k 0) e (omega (arith, long)))
    ∙ rw q (ap (λ (j : ℕ). overwrite_from (i + j) (get_or w k 0 ∷ []) (overwrite_from i (take k w) d)) (sym taken))
    ∙ from-from i (take k w) d (omega (arith, taken)) (get_or w k 0 ∷ [])
    ∙ rw (add-one, take-suc w k 0 (omega arith))
  where
    taken : length (take k w) ≡ k
    taken = length-take-le k w (omega arith)

    long : length e ≡ length d
    long = rw q (from-length i (take k w) d (omega (arith, taken)))
