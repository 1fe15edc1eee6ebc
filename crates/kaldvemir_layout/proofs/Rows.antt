-- Numbers copied out of a row and into it.
use mathlib.Core.Path.{◌≡◌, sym}
use mathlib.Core.List.{List, ◌++◌}
use Prim.Native.Nat.{ℕ, ◌+◌, ◌<◌}
use native.Mathlib.Omega.{arith}
use native.Mathlib.Numerals.{add-one}
use lib.ListN.{length, get_or, set, take, drop, length-drop}
use lib.Seq.{paste, paste-suc, get_or-drop}
use Rattle.lists.proofs.Copies.{copied_more}

-- a turn of the loop that copies out
pub copied-out : (s z : List ℕ) (from i : ℕ) → i < length z → from + i < length s → set (take i (drop from s) ++ drop i z) i (get_or s (from + i) 0) ≡ take (i + 1) (drop from s) ++ drop (i + 1) z
copied-out s z from i hz hs = rw (sym (get_or-drop from s i 0)) (copied_more z (drop from s) i hz (rw (length-drop from s) (omega arith)))

-- a turn of the loop that copies in
pub copied-in : (d s : List ℕ) (place i : ℕ) → place + i < length d → i < length s → set (paste d place s i) (place + i) (get_or s i 0) ≡ paste d place s (i + 1)
copied-in d s place i hd hs = rw add-one (paste-suc d place s i 0 hd hs)
