-- `take_back` meets its contract. Invariant: the items before i are drawn, and none from i on can be raised; so the first item on the way back that
-- can be raised is the last of the word.
use mathlib.Core.Path.{◌≡◌}
use mathlib.Core.List.{List}
use Prim.Native.Nat.{ℕ, ◌+◌, ◌-◌, ◌≤◌, ◌<◌}
use native.Mathlib.Omega.{arith}
use lib.ListN.{length, take}
use Rattle.words_respelling.specs.SpelledSoFar.{SpelledSoFar}
use Rattle.run_advance.proofs.Laws.{Back, word_some, back-starts, back-few, back_low, back-item, back_more, back-raise, back_none}
use Rattle.run_advance.proofs.take_back.Given as goal

abbrev pub invariant-loop-i : goal.invariant-loop-i
invariant-loop-i l = (1 ≤ l.i) × (l.i ≤ l.l)
    × ((s0 : List ℕ) → SpelledSoFar (take l.l l.items) l.initial.stack l.popped s0 l.initial.s1 l.n 0 → Back l.n l.l l.items l.i l.stack l.popped s0 l.s1 l.m.used l.m.height)
