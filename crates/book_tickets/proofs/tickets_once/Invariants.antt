-- `tickets_once` meets its contract: the loop's invariant: the answer is that for the tickets so far.
use mathlib.Core.Path.{◌≡◌}
use Prim.Native.Nat.{◌≤◌}
use Rattle.lists.specs.Ranges.{every}
use Rattle.book_tickets.specs.Tickets.{stands_once}
use Rattle.book_tickets.proofs.tickets_once.Given as goal

abbrev pub invariant-loop-i : goal.invariant-loop-i
invariant-loop-i l = (l.i ≤ l.k) × (l.once ≡ every l.i (stands_once l.ticket))
