-- `put_items` copies the items in one by one.
use mathlib.Core.Path.{◌≡◌}
use Prim.Native.Nat.{◌-◌, ◌≤◌}
use lib.Seq.{paste}
use Rattle.kaldvemir_layout_run.proofs.put_items.Given as goal

abbrev pub invariant-loop-i : goal.invariant-loop-i
invariant-loop-i l = (l.i ≤ 51) × (l.numbers ≡ paste l.initial.numbers 3 l.items l.i)
