-- A word that begins with T is not the least among the words of the rootings where s0 fixes some edge.
use mathlib.Core.Path.{◌≡◌}
use mathlib.Core.List.{List}
use Prim.Native.Nat.{ℕ}
use Rattle.labelling.specs.Labelling.{word_of}
use Rattle.labelling.proofs.FirstItems.{fixed-before-moved}
use Rattle.labelling_rootings.specs.Among.{NoneBefore, UComesFirst}

-- where a fixed edge's word comes before the root's, the root's is not the least
pub u-not-least : (s0 s1 own : List ℕ) (root : ℕ) → word_of s0 s1 root ≡ own → UComesFirst s0 root → ¬ NoneBefore s0 s1 own
unfolding UComesFirst NoneBefore
u-not-least s0 s1 own root w (n, (x, i, e)) k = k x i (rw (← w) (fixed-before-moved s0 s1 x root e n))
