-- `commit` meets its contract: refused as `ask` says, or 60; otherwise the ticket's share moves on.
use mathlib.Core.Path.{◌≡◌, refl, sym, ◌∙◌}
use mathlib.Core.Logic.{◌≢◌}
use Prim.Native.Nat.{ℕ, ◌+◌}
use native.Mathlib.Numerals.{add-one}
use native.Mathlib.Omega.{arith}
use Rattle.std.specs.Prelude.{Ok, Err}
use Rattle.refusals.specs.declared.Refusal.{Refusal}
use Rattle.refusals.specs.declared.Refusal.TheVariants as refusal
use Rattle.refusals.specs.Numbers.{number}
use Rattle.refusals.specs.Named.{named}
use Rattle.refusals.proofs.Numbers.{named-number, number-some}
use Rattle.lists.specs.Ranges.{OneTo}
use Rattle.lists.proofs.Tests.{eqb-eq, eqb-ne}
use Rattle.book.specs.declared.types.Book.{Book}
use Rattle.book.specs.Shares.{next, holder}
use Rattle.book.specs.Calls.{due, moved_to, book_moved_on, ticket_number, commit_number, commit_answer, commit_book}
use Rattle.book_standing.specs.Ask.{AskPromise}
use Rattle.book.proofs.Counts.{last-small}
use Rattle.book.proofs.Accepted.{ticket-unfinished}
use Rattle.book_entries.specs.Entries.{book_with}
use Rattle.book_standing.proofs.Found.{asked-good, asked_in}
use Rattle.book_decisions_commit.proofs.commit.Goals as goal

module _ (b : Book) (tick t p : ℕ) where
  commit-refused : (r : Refusal) → ((rest : ℕ) → ticket_number b tick t rest ≡ number r) → (Err r ≡ commit_answer b tick t p) × (b ≡ commit_book b tick t p)
  unfolding commit_answer commit_book commit_number
  commit-refused r e = rw (e _, eqb-ne _ _ (number-some r), named-number r) (refl, refl)

  module _ (e : (rest : ℕ) → ticket_number b tick t rest ≡ rest) where
    commit-elsewhere : next b (holder b t) ≢ p → (Err refusal.PositionNotDue ≡ commit_answer b tick t p) × (b ≡ commit_book b tick t p)
    unfolding commit_answer commit_book commit_number due named
    commit-elsewhere n = rw (e _, eqb-ne p (next b (holder b t)) (λ z. n (sym z))) (refl, refl)

    commit-accepted : next b (holder b t) ≡ p → (Ok tt ≡ commit_answer b tick t p) × (moved_to b tick (holder b t) (p + 1) ≡ commit_book b tick t p)
    unfolding commit_answer commit_book commit_number due book_moved_on
    commit-accepted q = rw (e _, eqb-eq p (next b (holder b t)) (sym q), q, add-one) (refl, refl)

pub entry-requires : goal.entry-requires
entry-requires c = (asked_in _ _ _ _ c.in-Ok.ensures, c.requires.0)

pub returns-then-entry-position : goal.returns-then-entry-position
returns-then-entry-position c =
    let a = c.in-Ok.ensures in
    let q = commit-elsewhere (book_with c.args.h c.args.nexts.now c.args.tickets.now c.args.expiries.now) c.args.tick c.args.ticket c.args.position a.1 (rw (c.entry.ensures, a.0) at c.if-entry-position.true) in
    (q.0, q.1, tt)

pub overflow_add-position : goal.overflow_add-position
overflow_add-position c =
    let b = book_with c.args.h c.args.nexts.now c.args.tickets.now c.args.expiries.now in
    let a = c.in-Ok.ensures in
    let G = asked-good _ _ _ _ a in
    let u = ticket-unfinished b c.args.ticket (holder b c.args.ticket) G.is_valid G.stands in
    let m : OneTo 32 c.in-Ok.j = asked_in _ _ _ _ a in
    let l = last-small c.args.h.size c.args.h.shares (holder b c.args.ticket) G.is_valid.size_in (rw (← a.0) m.1) in
    let e = rw (c.entry.ensures, a.0) at c.if-entry-position.false in
    omega arith

pub moved_to-requires : goal.moved_to-requires
moved_to-requires c =
    let S = (asked-good _ _ _ _ c.in-Ok.ensures).is_valid in
    (S.size_in, S.shares_in, asked_in _ _ _ _ c.in-Ok.ensures, c.requires.1, c.requires.2)

pub returns-in-Err : goal.returns-in-Err
returns-in-Err c =
    let a = c.in-Err.ensures in
    let q = commit-refused (book_with c.args.h c.args.nexts.now c.args.tickets.now c.args.expiries.now) c.args.tick c.args.ticket c.args.position _ a in
    (q.0, q.1, tt)

pub returns-else-entry-position : goal.returns-else-entry-position
returns-else-entry-position c =
    let a = c.in-Ok.ensures in
    let q = commit-accepted (book_with c.args.h c.args.nexts.now c.args.tickets.now c.args.expiries.now) c.args.tick c.args.ticket c.args.position a.1 (rw (c.entry.ensures, a.0) at c.if-entry-position.false) in
    (q.0, c.moved_to.ensures.0 c.args.nexts.now c.requires.0 ∙ rw a.0 q.1, c.moved_to.ensures.1)
