-- `end_word` meets its contract. Invariant: of the word that is to be drawn, the items before i are, and the rest is the least ending from the
-- counts there. Each item lowers the sum of the pending and the free labels, the measure.
use mathlib.Core.Path.{◌≡◌}
use mathlib.Core.List.{List}
use Prim.Native.Nat.{ℕ, ◌+◌, ◌-◌}
use native.Mathlib.Omega.{arith}
use lib.ListN.{drop}
use Rattle.listing_successor.specs.Successor.{least_ending}
use Rattle.run_advance.specs.Drawing.{PartDrawn, EventNext}
use Rattle.run_advance.proofs.Laws.{part-few, part_low, end-done, end-next, end-least, end-less, next_place, next-ends}
use Rattle.run_advance.proofs.end_word.Given as goal

abbrev pub invariant-loop-m : goal.invariant-loop-m
invariant-loop-m l =
    (v : List ℕ) → PartDrawn l.n v l.initial.items l.place l.initial.stack l.initial.popped l.initial.s0 l.initial.s1 l.initial.m.used l.initial.m.height → drop l.place v ≡ least_ending l.initial.m.height (l.n - l.initial.m.used)
    → PartDrawn l.n v l.items l.i l.stack l.popped l.s0 l.s1 l.m.used l.m.height × (drop l.i v ≡ least_ending l.m.height (l.n - l.m.used))

abbrev pub decreases-loop-m : goal.decreases-loop-m
decreases-loop-m l = l.m.height + (l.n - l.m.used)
