-- Depth between: two walks in step. A label that neither has come to stands further in from both ends, so both can go on.
use mathlib.Core.List.{List}
use Prim.Native.Nat.{ℕ, ◌-◌}
use Rattle.lists.specs.Lists.{Has}
use Rattle.pending_ring.specs.Ring.{Ring}
use Rattle.pending_ring.proofs.Walks.{Walks}
use Rattle.pending_ring.proofs.depth_between.Given as goal

abbrev pub invariant-loop-down : goal.invariant-loop-down
invariant-loop-down l = (s : List ℕ) → Ring l.next l.prev s → Has l.l s → Walks s l.l l.i l.down l.up

abbrev pub decreases-loop-down : goal.decreases-loop-down
decreases-loop-down l = 1025 - l.i
