-- Walk: as long as the start is not reached again, fewer edges are marked than the cycle has, and so fewer than there are.
use Prim.Native.Nat.{◌-◌}
use lib.ListN.{length}
use Rattle.lists.specs.Lists.{at}
use Rattle.invariants_cycles.specs.Cycles.{cusp_map}
use Rattle.invariants_counting.proofs.Walks.{Walking}
use Rattle.invariants_counting.proofs.walk.Given as goal

abbrev pub invariant-loop-x : goal.invariant-loop-x
invariant-loop-x l = Walking (length l.s0) (cusp_map (at l.s0) (at l.s1)) l.i l.initial.seen l.seen l.x l.k

abbrev pub decreases-loop-x : goal.decreases-loop-x
decreases-loop-x l = 1024 - l.k
