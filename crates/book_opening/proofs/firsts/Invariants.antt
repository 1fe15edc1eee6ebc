-- `firsts` meets its contract: after i turns of the loop the first i entries are the shares' first positions, the others 0.
use Prim.Native.Nat.{◌-◌, ◌≤◌}
use Rattle.book_opening.proofs.Filling.{Filled}
use Rattle.book_opening.proofs.firsts.Given as goal

abbrev pub invariant-loop-i : goal.invariant-loop-i
invariant-loop-i l = (l.i ≤ l.k) × Filled l.total l.k l.next l.i
