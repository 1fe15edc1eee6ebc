-- `ticket_once` compares the ticket with all before it.
use mathlib.Core.Path.{◌≡◌, refl, sym, ap}
use mathlib.Core.Bool.{Bool, true, false, cond}
use mathlib.Core.List.{List}
use Prim.Native.Nat.{ℕ, suc, ◌+◌, ◌-◌, ◌≤◌}
use native.Mathlib.Numerals.{add-one}
use native.Mathlib.Omega.{arith}
use lib.Dec.{eqb}
use Rattle.lists.specs.Lists.{at}
use Rattle.lists.specs.Ranges.{every}
use Rattle.book_connectives.specs.Connectives.{either}
use Rattle.book_tickets.specs.Tickets.{stands_once}
use Rattle.book_tickets.proofs.ticket_once.Invariants.{others}
use Rattle.book_tickets.proofs.ticket_once.Goals as goal

one_more : (e again : Bool) → cond (cond e false true) (cond again false true) false ≡ cond (either again e) false true
one_more true true = refl
one_more true false = refl
one_more false true = refl
one_more false false = refl

more : (l : List ℕ) (i m : ℕ) (again : Bool) → every m (others l i) ≡ cond again false true → every (m + 1) (others l i) ≡ cond (either again (eqb (at l (suc m)) (at l (suc i)))) false true
more l i m again h = rw (add-one, h) (one_more (eqb (at l (suc m)) (at l (suc i))) again)

all : (l : List ℕ) (i m : ℕ) (again : Bool) → i ≤ m → m ≤ i → every m (others l i) ≡ cond again false true → either (eqb (at l (suc i)) 0) (cond again false true) ≡ stands_once l (suc i)
unfolding stands_once
all l i m again a b h = let e : m ≡ suc i - 1 = omega arith in ap (either (eqb (at l (suc i)) 0)) (sym (rw e at h))

pub returns : goal.returns
returns c =
    let a = c.args in
    let l = c.loop-m in
    rw (c.either.ensures, c.not.ensures) (all a.ticket.now a.i l.m l.again c.loop-m-test.false l.invariant.0 l.invariant.1)
