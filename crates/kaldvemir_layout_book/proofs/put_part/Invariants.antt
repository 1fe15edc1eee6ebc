-- `put_part` copies the numbers in one by one.
use mathlib.Core.Path.{◌≡◌, refl, sym, ◌∙◌, ap}
use Prim.Native.Nat.{ℕ, ◌+◌, ◌-◌, ◌≤◌}
use native.Mathlib.Omega.{arith}
use lib.ListN.{length}
use lib.Seq.{paste, paste-zero}
use borrow.Author.Rules.{rules}
use Rattle.kaldvemir_layout.proofs.Rows.{copied-in}
use Rattle.kaldvemir_layout_book.proofs.put_part.Given as goal

abbrev pub invariant-loop-i : goal.invariant-loop-i
invariant-loop-i l = (l.i ≤ 32) × (l.numbers ≡ paste l.initial.numbers l.from l.list l.i)
