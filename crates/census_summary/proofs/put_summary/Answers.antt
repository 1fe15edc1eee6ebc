-- The lines one after another: each turn puts one more.
use native.Mathlib.Omega.{arith}
use borrow.Author.Rules.{rules}
use Rattle.census_summary.proofs.Lines.{lines_none, lines_more, summary-written}
use Rattle.census_summary.proofs.put_summary.Goals as goal

pub loop-size-init : goal.loop-size-init
loop-size-init c = lines_none _ _

pub loop-size-preserved : goal.loop-size-preserved
loop-size-preserved c = lines_more c.loop-size.invariant (omega (arith, c.loop-size-test.true)) (search rules) c.put_line-end.ensures

pub returns : goal.returns
returns c = let P = c.requires in summary-written c.loop-size.invariant (omega (arith, c.loop-size-test.false)) P.0 P.1
