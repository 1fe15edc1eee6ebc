-- `end_word` meets its contract. Invariant: the items written so far, with the least ending from the state reached, are what is to be
-- written. Each item lowers the sum of the height and the free labels, the measure.
use mathlib.Core.Path.{◌≡◌}
use mathlib.Core.List.{List}
use Prim.Native.Nat.{ℕ, ◌+◌}
use lib.ListN.{length}
use Rattle.listing_successor_endings.specs.Endings.{padded_word}
use Rattle.listing_successor_endings.proofs.Padding.{Ends, Wrote}
use Rattle.listing_successor_endings.proofs.end_word.Given as goal

abbrev pub invariant-loop-h : goal.invariant-loop-h
invariant-loop-h l = Ends l.i l.h l.f × ((p : List ℕ) → l.initial.items ≡ padded_word p → l.place ≡ length p → Wrote p l.height l.free l.items l.i l.h l.f)

abbrev pub decreases-loop-h : goal.decreases-loop-h
decreases-loop-h l = l.h + l.f
