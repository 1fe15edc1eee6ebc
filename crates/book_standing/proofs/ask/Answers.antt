-- `ask` meets its contract: the tests in turn, each of a book that has passed those before.
use mathlib.Core.Path.{◌≡◌, sym, ◌∙◌}
use mathlib.Core.Logic.{◌≢◌}
use mathlib.Core.Bool.{true, false}
use Prim.Native.Nat.{ℕ, ◌^◌, ◌≤◌, ◌<◌}
use native.Mathlib.Omega.{arith}
use lib.Dec.{leb, ltb}
use Rattle.lists.specs.Ranges.{OneTo}
use Rattle.lists.proofs.Tests.{eqb-eq, eqb-ne, le-true, le-false}
use Rattle.book.specs.declared.types.Book.{Book}
use Rattle.book_entries.specs.Entries.{book_with}
use Rattle.book.specs.Shares.{expiry, holder, lapsed}
use Rattle.book.specs.Valid.{both, valid}
use Rattle.book.specs.Calls.{tick_in, ticket_number}
use Rattle.book.proofs.ValidBook.{valid-facts}
use Rattle.book.proofs.Accepted.{holder-has-ticket}
use Rattle.book_standing.proofs.ask.Goals as goal

module _ (b : Book) (tick t : ℕ) where
  invalid : valid b ≡ false → (rest : ℕ) → ticket_number b tick t rest ≡ 50
  unfolding ticket_number
  invalid s rest = rw s

  module _ (s : valid b ≡ true) where
    untimely : both (leb b.latest tick) (ltb tick (2 ^ 48)) ≡ false → (rest : ℕ) → ticket_number b tick t rest ≡ 52
    unfolding ticket_number tick_in
    untimely e rest = rw (s, e)

    module _ (e : both (leb b.latest tick) (ltb tick (2 ^ 48)) ≡ true) where
      nowhere : holder b t ≡ 0 → (rest : ℕ) → ticket_number b tick t rest ≡ 58
      unfolding ticket_number tick_in
      nowhere h rest = rw (s, e, eqb-eq _ _ h)

      gone : holder b t ≢ 0 → expiry b (holder b t) ≤ tick → (rest : ℕ) → ticket_number b tick t rest ≡ 59
      unfolding ticket_number tick_in lapsed
      gone h l rest = rw (s, e, eqb-ne _ _ h, le-true _ _ l)

      stands : holder b t ≢ 0 → tick < expiry b (holder b t) → (rest : ℕ) → ticket_number b tick t rest ≡ rest
      unfolding ticket_number tick_in lapsed
      stands h l rest = rw (s, e, eqb-ne _ _ h, le-false _ _ l)

pub returns-then-not-valid : goal.returns-then-not-valid
returns-then-not-valid c = invalid (book_with c.args.h c.args.nexts.now c.args.tickets.now c.args.expiries.now) c.args.tick c.args.ticket (sym c.valid.ensures ∙ c.if-not-valid.true)

pub returns-then-not-tick_in : goal.returns-then-not-tick_in
returns-then-not-tick_in c =
    untimely (book_with c.args.h c.args.nexts.now c.args.tickets.now c.args.expiries.now) c.args.tick c.args.ticket (sym c.valid.ensures ∙ c.if-not-valid.false) (sym c.tick_in.ensures ∙ c.if-not-tick_in.true)

pub holder-share-requires : goal.holder-share-requires
holder-share-requires c = ((valid-facts (book_with c.args.h c.args.nexts.now c.args.tickets.now c.args.expiries.now) (sym c.valid.ensures ∙ c.if-not-valid.false)).shares_in.1, c.requires.1)

pub returns-then-share-eq0 : goal.returns-then-share-eq0
returns-then-share-eq0 c =
    nowhere (book_with c.args.h c.args.nexts.now c.args.tickets.now c.args.expiries.now) c.args.tick c.args.ticket (sym c.valid.ensures ∙ c.if-not-valid.false) (sym c.tick_in.ensures ∙ c.if-not-tick_in.false) (sym (c.holder-share.ensures c.args.nexts.now c.args.expiries.now) ∙ c.if-share-eq0.true)

-- a share where the ticket stands is among 32
held : (b : Book) (t j : ℕ) → valid b ≡ true → j ≡ holder b t → j ≢ 0 → OneTo 32 j
held b t j v e n =
    let m : holder b t ≢ 0 = rw e at n in
    let q = (holder-has-ticket b t m).share_in in
    let k = (valid-facts b v).shares_in in
    rw e (omega arith)

pub entry-requires : goal.entry-requires
entry-requires c = (held (book_with c.args.h c.args.nexts.now c.args.tickets.now c.args.expiries.now) c.args.ticket c.holder-share.result (sym c.valid.ensures ∙ c.if-not-valid.false) (c.holder-share.ensures c.args.nexts.now c.args.expiries.now) c.if-share-eq0.false, c.requires.2)

pub returns-then-entry-tick : goal.returns-then-entry-tick
returns-then-entry-tick c =
    let b = book_with c.args.h c.args.nexts.now c.args.tickets.now c.args.expiries.now in
    let e : c.holder-share.result ≡ holder b c.args.ticket = c.holder-share.ensures c.args.nexts.now c.args.expiries.now in
    gone b c.args.tick c.args.ticket (sym c.valid.ensures ∙ c.if-not-valid.false) (sym c.tick_in.ensures ∙ c.if-not-tick_in.false) (rw e at c.if-share-eq0.false) (rw (c.entry.ensures, e) at c.if-entry-tick.true)

pub returns : goal.returns
returns c =
    let b = book_with c.args.h c.args.nexts.now c.args.tickets.now c.args.expiries.now in
    let e : c.holder-share.result ≡ holder b c.args.ticket = c.holder-share.ensures c.args.nexts.now c.args.expiries.now in
    (e, stands b c.args.tick c.args.ticket (sym c.valid.ensures ∙ c.if-not-valid.false) (sym c.tick_in.ensures ∙ c.if-not-tick_in.false) (rw e at c.if-share-eq0.false) (rw (c.entry.ensures, e) at c.if-entry-tick.false))
