-- `commit_range` meets its contract: refused as `ask` says, or by the two ends of the range; otherwise the ticket's share goes on after the range.
use mathlib.Core.Path.{◌≡◌, refl, sym, ◌∙◌}
use Prim.Native.Nat.{ℕ}
use native.Mathlib.Numerals.{add-one}
use native.Mathlib.Omega.{arith}
use lib.Dec.{eqb, leb}
use Rattle.lists.specs.Ranges.{OneTo}
use Rattle.refusals.proofs.Numbers.{named-number, number-some, answered-ok, answered-err}
use Rattle.book.specs.declared.types.Book.{Book}
use Rattle.book.specs.Shares.{last, next, holder}
use Rattle.book.specs.Calls.{unless, due, ticket_number, commit_range_number, range_number}
use Rattle.book.proofs.Counts.{last-small}
use Rattle.book.proofs.ValidBook.{Long}
use Rattle.book.proofs.CommitRange.{RangeGood, range-closed, range-refused, range-good}
use Rattle.book_entries.specs.Entries.{book_with}
use Rattle.book_standing.specs.Ask.{AskPromise}
use Rattle.book_standing.proofs.Found.{asked-good, asked_in}
use Rattle.book_decisions_commit_range.proofs.commit_range.Goals as goal

-- the number of a range whose ticket is good, at the share j that was found
module _ (b : Book) (tick t p q j k : ℕ) (L : Long b) (s : j ≡ holder b t) (e : (rest : ℕ) → ticket_number b tick t rest ≡ rest)
    (n : k ≡ unless (leb p q) 60 (unless (eqb p (next b j)) 60 (unless (leb q (last b.size b.shares j)) 58 0))) where
  found_number : commit_range_number b tick t p q ≡ k
  found_number = range-closed b tick t p q L ∙ e _ ∙ (unfold range_number due in (rw (← s) (sym n)))

pub range_in-requires : goal.range_in-requires
range_in-requires c =
    let S = (asked-good _ _ _ _ c.in-Ok.ensures).is_valid in
    (S.size_in, S.shares_in, asked_in _ _ _ _ c.in-Ok.ensures, c.requires.0)

pub overflow_add-last : goal.overflow_add-last
overflow_add-last c =
    let b = book_with c.args.h c.args.nexts.now c.args.tickets.now c.args.expiries.now in
    let L : Long (book_with c.args.h c.args.nexts.now c.args.tickets.now c.args.expiries.now) = record { next_long = c.requires.0; ticket_long = c.requires.1; expiry_long = c.requires.2 } in
    let n = found_number (book_with c.args.h c.args.nexts.now c.args.tickets.now c.args.expiries.now) c.args.tick c.args.ticket c.args.first c.args.last _ _ L c.in-Ok.ensures.0 c.in-Ok.ensures.1 refl in
    let R = range-good b c.args.tick c.args.ticket c.args.first c.args.last L (n ∙ answered-ok _ c.in-Ok-range_in.ensures) in
    let m : OneTo 32 c.in-Ok.j = asked_in _ _ _ _ c.in-Ok.ensures in
    let l = last-small c.args.h.size c.args.h.shares (holder b c.args.ticket) R.good.is_valid.size_in (rw (← c.in-Ok.ensures.0) m.1) in
    let u = R.within in
    omega arith

pub moved_to-requires : goal.moved_to-requires
moved_to-requires c =
    let S = (asked-good _ _ _ _ c.in-Ok.ensures).is_valid in
    (S.size_in, S.shares_in, asked_in _ _ _ _ c.in-Ok.ensures, c.requires.1, c.requires.2)

pub returns-in-Err : goal.returns-in-Err
returns-in-Err c =
    let L : Long (book_with c.args.h c.args.nexts.now c.args.tickets.now c.args.expiries.now) = record { next_long = c.requires.0; ticket_long = c.requires.1; expiry_long = c.requires.2 } in
    let q = range-refused (book_with c.args.h c.args.nexts.now c.args.tickets.now c.args.expiries.now) c.args.tick c.args.ticket c.args.first c.args.last _ (number-some c.in-Err.refusal) (range-closed (book_with c.args.h c.args.nexts.now c.args.tickets.now c.args.expiries.now) c.args.tick c.args.ticket c.args.first c.args.last L ∙ c.in-Err.ensures _) in
    (rw (named-number c.in-Err.refusal) at q.0, q.1, tt)

pub returns-in-Err-range_in : goal.returns-in-Err-range_in
returns-in-Err-range_in c =
    let L : Long (book_with c.args.h c.args.nexts.now c.args.tickets.now c.args.expiries.now) = record { next_long = c.requires.0; ticket_long = c.requires.1; expiry_long = c.requires.2 } in
    let r = answered-err _ _ c.in-Err-range_in.ensures in
    let q = range-refused (book_with c.args.h c.args.nexts.now c.args.tickets.now c.args.expiries.now) c.args.tick c.args.ticket c.args.first c.args.last _ r.0 (found_number (book_with c.args.h c.args.nexts.now c.args.tickets.now c.args.expiries.now) c.args.tick c.args.ticket c.args.first c.args.last _ _ L c.in-Ok.ensures.0 c.in-Ok.ensures.1 refl) in
    (rw r.1 at q.0, q.1, tt)

pub returns-in-Ok-range_in : goal.returns-in-Ok-range_in
returns-in-Ok-range_in c =
    let L : Long (book_with c.args.h c.args.nexts.now c.args.tickets.now c.args.expiries.now) = record { next_long = c.requires.0; ticket_long = c.requires.1; expiry_long = c.requires.2 } in
    let n = found_number (book_with c.args.h c.args.nexts.now c.args.tickets.now c.args.expiries.now) c.args.tick c.args.ticket c.args.first c.args.last _ _ L c.in-Ok.ensures.0 c.in-Ok.ensures.1 refl in
    let R = range-good (book_with c.args.h c.args.nexts.now c.args.tickets.now c.args.expiries.now) c.args.tick c.args.ticket c.args.first c.args.last L (n ∙ answered-ok _ c.in-Ok-range_in.ensures) in
    (R.answered, c.moved_to.ensures.0 c.args.nexts.now c.requires.0 ∙ rw (c.in-Ok.ensures.0, add-one) R.left, c.moved_to.ensures.1)
