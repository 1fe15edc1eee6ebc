-- `remove_at` moves the entries above a place down by one. The loop's invariant, `Sliding`: those before place i are moved.
use Prim.Native.Nat.{◌-◌, ◌≤◌}
use Rattle.words_spelling_stores.proofs.Sliding.{Sliding}
use Rattle.words_spelling_stores.proofs.remove_at.Given as goal

abbrev pub invariant-loop-i : goal.invariant-loop-i
invariant-loop-i l = (l.place ≤ l.i) × (l.i ≤ l.height - 1) × Sliding l.initial.stack l.stack l.place l.i
