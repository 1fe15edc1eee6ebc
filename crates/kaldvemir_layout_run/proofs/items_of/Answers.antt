-- `items_of` copies the items out one by one.
use native.Mathlib.Omega.{arith}
use lib.ListN.{replicate}
use borrow.Author.Rules.{rules}
use Rattle.kaldvemir_layout.proofs.Rows.{copied-out}
use Rattle.kaldvemir_layout_run.proofs.items_of.Goals as goal

pub loop-i-preserved : goal.loop-i-preserved
loop-i-preserved c =
    (search rules, rw c.loop-i.invariant.1 (copied-out c.args.numbers.now (replicate 51 0) 3 c.loop-i.i (omega arith) (omega (arith, c.requires))))
