-- `complete` meets its contract: the loop's invariant: the first i shares are finished.
use mathlib.Core.Path.{◌≡◌}
use mathlib.Core.Bool.{true}
use Prim.Native.Nat.{◌-◌, ◌≤◌}
use Rattle.lists.specs.Ranges.{every}
use Rattle.book.specs.Shares.{finished}
use Rattle.book_progress.proofs.Counting.{bare}
use Rattle.book_progress.proofs.complete.Given as goal

abbrev pub invariant-loop-i : goal.invariant-loop-i
invariant-loop-i l = (l.i ≤ l.h.shares) × (every l.i (finished (bare l.h l.nexts)) ≡ true)
