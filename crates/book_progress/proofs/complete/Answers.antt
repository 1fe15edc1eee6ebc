use mathlib.Core.Path.{sym, ◌∙◌}
use native.Mathlib.Omega.{arith}
use Rattle.book_progress.proofs.Counting.{bare, any_complete, one_left, one_more, whole}
use Rattle.book_progress.proofs.complete.Goals as goal

pub returns-then-nexts-index : goal.returns-then-nexts-index
returns-then-nexts-index c t e = sym (one_left (bare c.args.h c.args.nexts.now) c.loop-i.i _ c.loop-i-test.true (c.last_of.ensures.0 c.args.h.size c.count_of-total.ensures.0) c.if-nexts-index.true) ∙ any_complete c.args.h c.args.nexts.now t e

pub loop-i-preserved : goal.loop-i-preserved
loop-i-preserved c = (omega arith, one_more (bare c.args.h c.args.nexts.now) c.loop-i.i _ (c.last_of.ensures.0 c.args.h.size c.count_of-total.ensures.0) c.if-nexts-index.false c.loop-i.invariant.1)

pub returns : goal.returns
returns c t e = whole (bare c.args.h c.args.nexts.now) c.loop-i.i c.loop-i-test.false c.loop-i.invariant.0 c.loop-i.invariant.1 ∙ any_complete c.args.h c.args.nexts.now t e
