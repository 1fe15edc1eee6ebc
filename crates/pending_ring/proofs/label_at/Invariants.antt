-- Label at: a walk down to the place d, which is within the stack.
use mathlib.Core.List.{List}
use Prim.Native.Nat.{ℕ, ◌<◌, ◌≤◌}
use lib.ListN.{length}
use Rattle.pending_ring.specs.Ring.{Ring}
use Rattle.pending_ring.proofs.Laws.{Walk}
use Rattle.pending_ring.proofs.label_at.Given as goal

abbrev pub invariant-loop : goal.invariant-loop
invariant-loop l = (l.counter ≤ l.d) × ((pv s : List ℕ) → Ring l.next pv s → l.d < length s → Walk s l.d l.counter l.index)
