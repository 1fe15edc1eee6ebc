use Prim.Native.Nat.{◌+◌}
use native.Mathlib.Omega.{arith}
use lib.ListN.{drop, drop_of_length-le}
use Rattle.words_spelling_events.proofs.Lists.{next-item}
use Rattle.upto_visits.proofs.Passing.{passed-small, visited-more, visited-end}
use Rattle.upto_visits.proofs.visits_from.Goals as goal

pub pass-step-requires-clause-by_index : goal.pass-step-requires-clause-by_index
pass-step-requires-clause-by_index c =
    let v = rw (next-item c.args.items.now c.loop-item.item-index (omega arith)) at c.loop-item.invariant.1 in
    (drop (c.loop-item.item-index + 1) c.args.items.now, v.fits)

pub overflow_add-visits : goal.overflow_add-visits
overflow_add-visits c =
    let v = rw (next-item c.args.items.now c.loop-item.item-index (omega arith)) at c.loop-item.invariant.1 in
    omega (arith, (visited-more _ _ _ _ _ _ _ _ _ v (c.pass-step.ensures _ v.fits)).sum, passed-small c.args.height c.args.free c.args.items.now c.requires.1 c.requires.0)

pub loop-item-preserved : goal.loop-item-preserved
loop-item-preserved c =
    let v = rw (next-item c.args.items.now c.loop-item.item-index (omega arith)) at c.loop-item.invariant.1 in
    (omega arith, visited-more _ _ _ _ _ _ _ _ _ v (c.pass-step.ensures _ v.fits))

pub returns : goal.returns
returns c = visited-end _ _ _ _ (rw (drop_of_length-le c.args.items.now c.loop-item-test.false) at c.loop-item.invariant.1)
