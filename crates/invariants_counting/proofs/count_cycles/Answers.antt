-- Count cycles: with the edges 1..i done, their cycles are marked and counted, and the least common multiple of their lengths is known.
use native.Mathlib.Omega.{arith}
use Prim.Native.Nat.{◌+◌}
use Rattle.invariants_cycles.proofs.Cycles.{around-perm, period_is}
use Rattle.invariants_counting.proofs.Counts.{count-start, count-few, count-end, count-skip, count-new}
use Rattle.invariants_counting.proofs.count_cycles.Goals as goal
use Rattle.invariants_counting.proofs.count_cycles.Goals.{then-unmarked, else-unmarked}

pub loop-i-init : goal.loop-i-init
loop-i-init c = count-start _ _ c.requires.size.1

pub overflow_add-count : goal.overflow_add-count
overflow_add-count c = let few = count-few c.loop-i.invariant in omega (arith, c.requires.size)

pub common_multiple-level-requires : goal.common_multiple-level-requires
common_multiple-level-requires c =
    let i = (period_is (around-perm c.requires.maps) (c.loop-i.i + 1) (omega (arith, c.loop-i-test.true))).some in
    omega (arith, i, c.walk-k.ensures.value)

pub loop-i-preserved : goal.loop-i-preserved
loop-i-preserved c =
    let p = around-perm c.requires.maps in
    elim c.if-unmarked.branch [
      | then-unmarked w ↦ rw (w.seen-is, w.count-is, w.level-is) (count-new c.loop-i.invariant p c.loop-i-test.true w.if-unmarked.true w.walk-k.new.seen w.walk-k.ensures.cycle_marked _ _ w.walk-k.ensures.value w.common_multiple-level.ensures)
      | else-unmarked w ↦ rw (w.seen-is, w.count-is, w.level-is) (count-skip c.loop-i.invariant p c.loop-i-test.true w.if-unmarked.false)
    ]

pub returns-clause-count_value : goal.returns-clause-count_value
returns-clause-count_value c = (count-end c.loop-i.invariant c.loop-i-test.false).0
