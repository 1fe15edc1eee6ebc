-- Fixed: with the first i edges tested, the count is how many of them the list fixes.
use native.Mathlib.Omega.{arith}
use mathlib.Core.Path.{sym, ◌∙◌}
use Rattle.lists.specs.Lists.{at}
use Rattle.invariants_cycles.proofs.Cycles.{fixes-most}
use Rattle.invariants_counting.proofs.FixedEdges.{fixes-none, fixes-one-more, fixes-no-more}
use Rattle.invariants_counting.proofs.fixed.Goals as goal
use Rattle.invariants_counting.proofs.fixed.Goals.{then-to_index-i, else-to_index-i}

pub loop-i-init : goal.loop-i-init
loop-i-init c = fixes-none _

pub overflow_add-count : goal.overflow_add-count
overflow_add-count c = let few = fixes-most c.loop-i.i (at c.args.s.now) in omega (arith, c.loop-i.invariant)

pub loop-i-preserved : goal.loop-i-preserved
loop-i-preserved c =
    elim c.if-to_index-i.branch [
      | then-to_index-i w ↦ rw w.count-is (fixes-one-more _ _ _ c.loop-i.invariant (sym c.to_index.ensures ∙ w.if-to_index-i.true))
      | else-to_index-i w ↦ rw w.count-is (fixes-no-more _ _ _ c.loop-i.invariant (λ q. w.if-to_index-i.false (c.to_index.ensures ∙ q)))
    ]
