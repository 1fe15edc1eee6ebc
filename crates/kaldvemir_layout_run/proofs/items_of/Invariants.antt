-- `items_of` copies the items out one by one.
use mathlib.Core.Path.{◌≡◌}
use mathlib.Core.List.{◌++◌}
use Prim.Native.Nat.{◌-◌, ◌≤◌}
use lib.ListN.{take, drop, replicate}
use Rattle.kaldvemir_layout_run.proofs.items_of.Given as goal

abbrev pub invariant-loop-i : goal.invariant-loop-i
invariant-loop-i l = (l.i ≤ 51) × (l.items ≡ take l.i (drop 3 l.numbers) ++ drop l.i (replicate 51 0))
