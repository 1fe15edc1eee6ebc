-- `ticket_once` compares the ticket with all before it.
use mathlib.Core.Path.{◌≡◌}
use mathlib.Core.Bool.{Bool, true, false, cond}
use mathlib.Core.List.{List}
use Prim.Native.Nat.{ℕ, suc, ◌≤◌}
use lib.Dec.{eqb}
use Rattle.lists.specs.Lists.{at}
use Rattle.lists.specs.Ranges.{every}
use Rattle.book_tickets.proofs.ticket_once.Given as goal

-- the ticket at place m - 1 is another than the one at place i
abbrev pub others : List ℕ → ℕ → ℕ → Bool
others l i m = cond (eqb (at l m) (at l (suc i))) false true

abbrev pub invariant-loop-m : goal.invariant-loop-m
invariant-loop-m l = (l.m ≤ l.i) × (every l.m (others l.ticket l.i) ≡ cond l.again false true)
