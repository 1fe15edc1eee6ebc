-- `take` meets its contract: refused as `ask` says; otherwise the diagram at the next position of the ticket's share is given.
use mathlib.Core.Path.{◌≡◌, refl}
use mathlib.Core.Logic.{◌≢◌}
use mathlib.Core.List.{List}
use Prim.Native.Nat.{ℕ}
use Rattle.std.specs.Prelude.{Err}
use Rattle.refusals.specs.declared.Refusal.{Refusal}
use Rattle.refusals.specs.Numbers.{number}
use Rattle.refusals.proofs.Numbers.{named-number, number-some}
use Rattle.lists.specs.Ranges.{OneTo}
use Rattle.lists.proofs.Tests.{eqb-ne}
use Rattle.book.specs.declared.types.Book.{Book}
use Rattle.book.specs.Calls.{ticket_number, take_number, take_answer, take_book, take_list}
use Rattle.book_standing.specs.Ask.{AskPromise}
use Rattle.book.specs.Taken.{TakePromise}
use Rattle.book_entries.specs.Entries.{book_with}
use Rattle.book_standing.proofs.Found.{asked_in}
use Rattle.book_decisions_take.proofs.take.Goals as goal

take-refused : (b : Book) (tick t : ℕ) (a0 a1 aw : List ℕ) (r : Refusal) → ((rest : ℕ) → ticket_number b tick t rest ≡ number r) → TakePromise b tick t a0 a1 aw (Err r) b a0 a1 aw
unfolding take_answer take_book take_list take_number
take-refused b tick t a0 a1 aw r e = record {
  answered = rw (e _, eqb-ne _ _ (number-some r), named-number r);
  left = rw (e _, eqb-ne _ _ (number-some r));
  s0_is = rw (e _, eqb-ne _ _ (number-some r));
  s1_is = rw (e _, eqb-ne _ _ (number-some r));
  word_is = rw (e _, eqb-ne _ _ (number-some r));
}

pub entry-requires : goal.entry-requires
entry-requires c = (asked_in _ _ _ _ c.in-Ok.ensures, c.requires.0)

pub returns-in-Err : goal.returns-in-Err
returns-in-Err c =
    let q = c.in-Err.ensures in
    (take-refused (book_with c.args.h c.args.nexts.now c.args.tickets.now c.args.expiries.now) c.args.tick c.args.ticket c.args.s0.now c.args.s1.now c.args.word.now _ q, tt)
