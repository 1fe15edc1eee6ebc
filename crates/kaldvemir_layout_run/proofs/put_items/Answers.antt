-- `put_items` copies the items in one by one.
use native.Mathlib.Omega.{arith}
use borrow.Author.Rules.{rules}
use Rattle.kaldvemir_layout.proofs.Rows.{copied-in}
use Rattle.kaldvemir_layout_run.proofs.put_items.Goals as goal

pub loop-i-preserved : goal.loop-i-preserved
loop-i-preserved c =
    (search rules, rw c.loop-i.invariant.1 (copied-in c.args.numbers.now c.args.items.now 3 c.loop-i.i (omega (arith, c.requires.0)) (omega (arith, c.requires.1))))
