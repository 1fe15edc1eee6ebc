-- `tickets_apart` meets its contract: the loop's invariant: the remainders of the tickets so far are marked, and if none has clashed, each stands once.
use mathlib.Core.Path.{◌≡◌}
use mathlib.Core.Bool.{true}
use Prim.Native.Nat.{◌≤◌}
use Rattle.lists.specs.Ranges.{every}
use Rattle.book_tickets.specs.Tickets.{stands_once}
use Rattle.book_tickets.proofs.Apart.{Marked}
use Rattle.book_tickets.proofs.tickets_apart.Given as goal

abbrev pub invariant-loop-i : goal.invariant-loop-i
invariant-loop-i l = (l.i ≤ l.k) × (l.clashes ≤ l.i) × Marked l.ticket l.i l.marks × (l.clashes ≡ 0 → every l.i (stands_once l.ticket) ≡ true)
