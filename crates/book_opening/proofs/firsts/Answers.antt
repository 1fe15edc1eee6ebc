use native.Mathlib.Omega.{arith}
use Rattle.book_opening.proofs.Filling.{start, further, whole}
use Rattle.book_opening.proofs.firsts.Goals as goal

pub loop-i-init : goal.loop-i-init
loop-i-init c = (omega arith, start c.args.total c.args.k)

pub loop-i-preserved : goal.loop-i-preserved
loop-i-preserved c = (omega arith, further c.args.total c.args.k c.loop-i.next c.loop-i.i c.last_of.result (omega arith) c.last_of.ensures.0 c.loop-i.invariant.1)

pub returns : goal.returns
returns c n e = whole c.args.total c.args.k c.loop-i.next c.loop-i.i n e c.loop-i-test.false c.loop-i.invariant.0 c.loop-i.invariant.1
