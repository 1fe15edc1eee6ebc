-- `unrank` writes the items one by one. The loop's invariant: the word, the lent list and what is left to write are as `Unranking` says.
use mathlib.Core.Path.{◌≡◌}
use mathlib.Core.List.{List}
use Prim.Native.Nat.{ℕ, ◌+◌}
use lib.ListN.{length}
use Rattle.listing_places_ways.specs.Steps.{Unranking}
use Rattle.listing_places_ways.proofs.unranking.unrank.Given as goal

abbrev pub invariant-loop-h : goal.invariant-loop-h
invariant-loop-h l = (length l.word ≡ length l.initial.word) × ((W a : List ℕ) → Unranking W a l.initial.word l.next l.height l.free l.place → Unranking W a l.word l.i l.h l.f l.p)

abbrev pub decreases-loop-h : goal.decreases-loop-h
decreases-loop-h l = l.h + l.f
