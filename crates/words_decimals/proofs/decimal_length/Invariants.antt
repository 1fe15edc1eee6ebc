-- The digits counted: those passed and those of what is left of m are together those of m.
use mathlib.Core.Path.{◌≡◌}
use Prim.Native.Nat.{suc, ◌+◌, ◌≤◌}
use lib.ListN.{length}
use Rattle.words_decimals.specs.Decimals.{decimal}
use Rattle.words_decimals.proofs.decimal_length.Given as goal

abbrev pub invariant-loop-x : goal.invariant-loop-x
invariant-loop-x l = (l.x ≤ l.m) × (l.n + length (decimal l.x) ≡ suc (length (decimal l.m)))

abbrev pub decreases-loop-x : goal.decreases-loop-x
decreases-loop-x l = l.x
