-- `visits_from` adds up the branches before each item. The loop's invariant, `Visited`: what is added so far and what is met from the state of the
-- items left on are what is met in all.
use Prim.Native.Nat.{◌≤◌}
use lib.ListN.{length, drop}
use Rattle.upto_weights.specs.Weights.{passed}
use Rattle.upto_visits.proofs.Passing.{Visited}
use Rattle.upto_visits.proofs.visits_from.Given as goal

abbrev pub invariant-loop-item : goal.invariant-loop-item
invariant-loop-item l = (l.item-index ≤ length l.items) × Visited (passed 0 1 l.height l.free l.items) l.visits l.h l.f (drop l.item-index l.items)
