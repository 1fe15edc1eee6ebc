-- The marks one after another: each turn counts one more.
use native.Mathlib.Omega.{arith}
use Rattle.run_kept_count.proofs.Counting.{marks-none, marks-more, marks-all}
use Rattle.run_kept_count.proofs.kept_marks.Goals as goal

pub loop-i-init : goal.loop-i-init
loop-i-init c = marks-none _ _

pub loop-i-preserved : goal.loop-i-preserved
loop-i-preserved c = marks-more c.loop-i.invariant c.loop-i-test.true c.kept_of-kept.ensures.0 c.kept_of-kept.ensures.1

pub returns : goal.returns
returns c = marks-all c.loop-i.invariant (omega arith)
