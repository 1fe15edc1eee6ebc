-- `put_part` copies the numbers in one by one.
use mathlib.Core.Path.{◌≡◌, refl, sym, ◌∙◌, ap}
use Prim.Native.Nat.{ℕ, ◌+◌, ◌-◌, ◌≤◌}
use native.Mathlib.Omega.{arith}
use lib.ListN.{length}
use lib.Seq.{paste, paste-zero}
use borrow.Author.Rules.{rules}
use Rattle.kaldvemir_layout.proofs.Rows.{copied-in}
use Rattle.kaldvemir_layout_book.proofs.put_part.Goals as goal

pub loop-i-preserved : goal.loop-i-preserved
loop-i-preserved c =
    let x = c.before in
    (search rules, rw c.loop-i.invariant.1 (copied-in x.args.numbers.now x.args.list.now x.args.from c.loop-i.i (omega (arith, x.requires.0, x.requires.2)) (omega (arith, x.requires.1))))
