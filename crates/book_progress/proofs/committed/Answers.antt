use mathlib.Core.Path.{◌∙◌}
use native.Mathlib.Omega.{arith}
use Rattle.book_progress.proofs.Counting.{Step, step, whole_sum, any_committed}
use Rattle.book_progress.proofs.committed.Goals as goal

pub overflow_sub-sum : goal.overflow_sub-sum
overflow_sub-sum c =
    let s = step c.args.h c.args.nexts.now c.loop-i.i c.loop-i.sum c.last_of.result c.requires.0 c.requires.1 c.requires.3 c.loop-i-test.true (c.last_of.ensures.0 c.args.h.size c.count_of-total.ensures.0) c.loop-i.invariant.1 in
    omega (arith, s.from)

pub overflow_add-sum-in-loop-i : goal.overflow_add-sum-in-loop-i
overflow_add-sum-in-loop-i c =
    let s = step c.args.h c.args.nexts.now c.loop-i.i c.loop-i.sum c.last_of.result c.requires.0 c.requires.1 c.requires.3 c.loop-i-test.true (c.last_of.ensures.0 c.args.h.size c.count_of-total.ensures.0) c.loop-i.invariant.1 in
    omega (arith, s.less, s.counted.small)

pub loop-i-preserved : goal.loop-i-preserved
loop-i-preserved c =
    let s = step c.args.h c.args.nexts.now c.loop-i.i c.loop-i.sum c.last_of.result c.requires.0 c.requires.1 c.requires.3 c.loop-i-test.true (c.last_of.ensures.0 c.args.h.size c.count_of-total.ensures.0) c.loop-i.invariant.1 in
    (omega arith, s.counted)

pub returns : goal.returns
returns c t e = whole_sum c.args.h c.args.nexts.now c.loop-i.i _ c.loop-i-test.false c.loop-i.invariant.0 c.loop-i.invariant.1 ∙ any_committed c.args.h c.args.nexts.now t e
