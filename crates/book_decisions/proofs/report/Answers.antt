-- `report` meets its contract: the counts are of a valid book.
use mathlib.Core.Path.{◌≡◌, sym, ◌∙◌}
use mathlib.Core.Bool.{true}
use Rattle.book.specs.Valid.{valid}
use Rattle.book.specs.Calls.{report_answer}
use Rattle.book.proofs.ValidBook.{valid-facts}
use Rattle.book_entries.specs.Entries.{book_with}
use Rattle.book_decisions.proofs.report.Goals as goal

pub returns-then-not-valid : goal.returns-then-not-valid
unfolding report_answer
returns-then-not-valid c = rw (sym c.valid.ensures ∙ c.if-not-valid.true)

pub committed-requires : goal.committed-requires
committed-requires c =
    let S = valid-facts (book_with c.args.h c.args.nexts.now c.args.tickets.now c.args.expiries.now) (sym c.valid.ensures ∙ c.if-not-valid.false) in
    (S.size_in, S.shares_in, c.requires.0, λ j i. ((S.share j i).from, (S.share j i).to))

pub complete-requires : goal.complete-requires
complete-requires c =
    let S = valid-facts (book_with c.args.h c.args.nexts.now c.args.tickets.now c.args.expiries.now) (sym c.valid.ensures ∙ c.if-not-valid.false) in
    (S.size_in, S.shares_in, c.requires.0)

pub returns : goal.returns
unfolding report_answer
returns c =
    let v : valid (book_with c.args.h c.args.nexts.now c.args.tickets.now c.args.expiries.now) ≡ true = sym c.valid.ensures ∙ c.if-not-valid.false in
    rw (v, c.complete.ensures c.args.tickets.now c.args.expiries.now, c.committed.ensures c.args.tickets.now c.args.expiries.now)
