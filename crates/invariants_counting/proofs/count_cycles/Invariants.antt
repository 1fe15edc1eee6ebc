-- Count cycles: with the edges 1..i done, their cycles are marked and counted, and the least common multiple of their lengths is known.
use lib.ListN.{length}
use Rattle.lists.specs.Lists.{at}
use Rattle.invariants_cycles.specs.Cycles.{cusp_map}
use Rattle.invariants_counting.proofs.Counts.{Counted}
use Rattle.invariants_counting.proofs.count_cycles.Given as goal

abbrev pub invariant-loop-i : goal.invariant-loop-i
invariant-loop-i l = Counted (length l.s0) (cusp_map (at l.s0) (at l.s1)) l.seen l.count l.level l.i
