-- Fixed: with the first i edges tested, the count is how many of them the list fixes.
use mathlib.Core.Path.{◌≡◌}
use Rattle.lists.specs.Lists.{at}
use Rattle.invariants_cycles.specs.Cycles.{fixed_points}
use Rattle.invariants_counting.proofs.fixed.Given as goal

abbrev pub invariant-loop-i : goal.invariant-loop-i
invariant-loop-i l = l.count ≡ fixed_points l.i (at l.s)
