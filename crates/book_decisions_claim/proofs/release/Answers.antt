-- `release` meets its contract: refused as `ask` says, and otherwise the share is freed.
use mathlib.Core.Path.{◌≡◌, refl}
use mathlib.Core.Logic.{◌≢◌}
use Prim.Native.Nat.{ℕ}
use Rattle.std.specs.Prelude.{Ok, Err}
use Rattle.refusals.specs.declared.Refusal.{Refusal}
use Rattle.refusals.specs.Numbers.{number}
use Rattle.refusals.proofs.Numbers.{named-number, number-some}
use Rattle.lists.specs.Ranges.{OneTo}
use Rattle.lists.proofs.Tests.{eqb-ne}
use Rattle.book.specs.declared.types.Book.{Book}
use Rattle.book.specs.Shares.{next, holder}
use Rattle.book.specs.Calls.{entered, due, ticket_number, release_number, release_answer, release_book}
use Rattle.book_standing.specs.Ask.{AskPromise}
use Rattle.book_entries.specs.Entries.{book_with}
use Rattle.book_standing.proofs.Found.{asked_in}
use Rattle.book_decisions_claim.proofs.release.Goals as goal

module _ (b : Book) (tick t : ℕ) where
  release-refused : (r : Refusal) → ((rest : ℕ) → ticket_number b tick t rest ≡ number r) → (Err r ≡ release_answer b tick t) × (b ≡ release_book b tick t)
  unfolding release_answer release_book release_number
  release-refused r e = rw (e 0, eqb-ne _ _ (number-some r), named-number r) (refl, refl)

  release-accepted : ((rest : ℕ) → ticket_number b tick t rest ≡ rest) → (Ok tt ≡ release_answer b tick t) × (entered b tick b.issued (holder b t) (next b (holder b t)) 0 0 ≡ release_book b tick t)
  unfolding release_answer release_book release_number due
  release-accepted e = rw (e 0) (refl, refl)

pub entry-requires : goal.entry-requires
entry-requires c = (asked_in _ _ _ _ c.in-Ok.ensures, c.requires.0)

pub returns-in-Err : goal.returns-in-Err
returns-in-Err c =
    let a = c.in-Err.ensures in
    let q = release-refused (book_with c.args.h c.args.nexts.now c.args.tickets.now c.args.expiries.now) c.args.tick c.args.ticket _ a in
    (q.0, q.1, tt)

pub returns-in-Ok : goal.returns-in-Ok
returns-in-Ok c =
    let a = c.in-Ok.ensures in
    let q = release-accepted (book_with c.args.h c.args.nexts.now c.args.tickets.now c.args.expiries.now) c.args.tick c.args.ticket a.1 in
    (q.0, rw (c.entry.ensures, a.0) q.1, asked_in _ _ _ _ a)
