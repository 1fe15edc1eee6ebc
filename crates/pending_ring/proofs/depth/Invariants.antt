-- Depth: a walk down to the place of l. Each label passed is another one, so the walk ends there and not before.
use mathlib.Core.List.{List}
use Prim.Native.Nat.{ℕ, ◌-◌}
use Rattle.lists.specs.Lists.{Has, find}
use Rattle.pending_ring.specs.Ring.{Ring}
use Rattle.pending_ring.proofs.Laws.{Walk}
use Rattle.pending_ring.proofs.depth.Given as goal

abbrev pub invariant-loop-index : goal.invariant-loop-index
invariant-loop-index l = (pv s : List ℕ) → Ring l.next pv s → Has l.l s → Walk s (find l.l s) l.d l.index

abbrev pub decreases-loop-index : goal.decreases-loop-index
decreases-loop-index l = 1025 - l.d
