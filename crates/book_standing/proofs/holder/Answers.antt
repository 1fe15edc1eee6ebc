-- `holder` meets its contract: the loop's invariant: the ticket stands where it stands among the first j shares.
use mathlib.Core.Path.{◌≡◌, refl, ◌∙◌}
use mathlib.Core.Logic.{◌≢◌}
use mathlib.Core.List.{List}
use Prim.Native.Nat.{ℕ, zero, suc, ◌+◌, ◌-◌, ◌≤◌, ◌<◌}
use native.Mathlib.Omega.{arith}
use lib.ListN.{get_or}
use Rattle.lists.proofs.Tests.{eqb-eq, eqb-ne}
use Rattle.book.specs.declared.types.Book.{Book}
use Rattle.book.specs.declared.types.Heads.{Heads}
use Rattle.book_entries.specs.Entries.{book_with}
use Rattle.book.specs.Shares.{standing, holder}
use Rattle.book_standing.proofs.holder.Goals as goal

-- the ticket stands at share j, and at none of the shares after it
found : (b : Book) (t j : ℕ) → t ≢ 0 → 0 < j → get_or b.ticket (j - 1) 0 ≡ t → standing b t j ≡ standing b t b.shares → j ≡ holder b t
unfolding holder
found b t zero n h e q = absurd (omega arith)
found b t (suc j) n h e q = let d : suc j - 1 ≡ j = omega arith in rw (eqb-ne _ _ n) (rw (eqb-eq _ _ (rw d at e)) at q)

-- it does not stand there
further : (b : Book) (t j : ℕ) → 0 < j → get_or b.ticket (j - 1) 0 ≢ t → standing b t (j - 1) ≡ standing b t j
further b t zero h n = absurd (omega arith)
further b t (suc j) h n = let d : suc j - 1 ≡ j = omega arith in rw (d, eqb-ne _ _ (rw d at n))

nowhere : (b : Book) (t j : ℕ) → t ≢ 0 → j ≤ 0 → standing b t j ≡ standing b t b.shares → 0 ≡ holder b t
unfolding holder
nowhere b t j n h q = let d : j ≡ 0 = omega arith in rw (eqb-ne _ _ n) (rw d at q)

pub returns-then-ticket-eq0 : goal.returns-then-ticket-eq0
unfolding holder
returns-then-ticket-eq0 c p e = rw (eqb-eq c.args.ticket 0 c.if-ticket-eq0.true)

pub returns-then-tickets-i : goal.returns-then-tickets-i
returns-then-tickets-i c p e =
    let t = c.loop-i-test.true in
    let z : (c.loop-i.i - 1) + 1 ≡ c.loop-i.i = omega arith in
    z ∙ found (book_with c.args.h p c.args.tickets.now e) c.args.ticket c.loop-i.i c.if-ticket-eq0.false c.loop-i-test.true c.if-tickets-i.true (c.loop-i.invariant.1 c.args.h p e)

pub loop-i-preserved : goal.loop-i-preserved
loop-i-preserved c = (omega arith, λ h p e. further (book_with h p c.args.tickets.now e) c.args.ticket c.loop-i.i c.loop-i-test.true c.if-tickets-i.false ∙ c.loop-i.invariant.1 h p e)

pub returns : goal.returns
returns c p e = nowhere (book_with c.args.h p c.args.tickets.now e) c.args.ticket c.loop-i.i c.if-ticket-eq0.false c.loop-i-test.false (c.loop-i.invariant.1 c.args.h p e)
