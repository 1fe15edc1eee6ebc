-- `zeros` meets its contract. Invariant: every item before the index is 0.
use mathlib.Core.Path.{◌≡◌}
use Prim.Native.Nat.{ℕ, ◌<◌, ◌≤◌}
use lib.ListN.{length, get_or}
use Rattle.run_validity.proofs.zeros.Given as goal

abbrev pub invariant-loop-x : goal.invariant-loop-x
invariant-loop-x l = (l.x-index ≤ length l.items) × ((k : ℕ) → k < l.x-index → get_or l.items k 0 ≡ 0)
