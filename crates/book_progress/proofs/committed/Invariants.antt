-- `committed` meets its contract: the loop's invariant: the sum is what the first i shares have committed.
use Prim.Native.Nat.{◌-◌, ◌≤◌}
use Rattle.book_progress.proofs.Counting.{Counted}
use Rattle.book_progress.proofs.committed.Given as goal

abbrev pub invariant-loop-i : goal.invariant-loop-i
invariant-loop-i l = (l.i ≤ l.h.shares) × Counted l.h l.nexts l.i l.sum
