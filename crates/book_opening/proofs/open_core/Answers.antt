-- `open_core` meets its contract: 31 and 51 in their order, and otherwise the book that is opened.
use mathlib.Core.Path.{◌≡◌, refl, sym, ◌∙◌}
use mathlib.Core.Bool.{true, false}
use Rattle.refusals.specs.Named.{named}
use Rattle.book.specs.Valid.{among}
use Rattle.book.specs.Calls.{open_number, open_answer, open_book}
use Rattle.book_opening.proofs.open_core.Goals as goal

pub returns-then-not-among : goal.returns-then-not-among
unfolding open_answer open_book open_number named
returns-then-not-among c = let e : among 50 c.args.size ≡ false = sym c.among.ensures ∙ c.if-not-among.true in rw e (refl, refl)

pub returns-then-not-among-2 : goal.returns-then-not-among-2
unfolding open_answer open_book open_number named
returns-then-not-among-2 c =
    let e : among 50 c.args.size ≡ true = sym c.among.ensures ∙ c.if-not-among.false in
    let f : among 32 c.args.k ≡ false = sym c.among-2.ensures ∙ c.if-not-among-2.true in
    rw (e, f) (refl, refl)

pub returns : goal.returns
unfolding open_answer open_book open_number
returns c =
    let e : among 50 c.args.size ≡ true = sym c.among.ensures ∙ c.if-not-among.false in
    let f : among 32 c.args.k ≡ true = sym c.among-2.ensures ∙ c.if-not-among-2.false in
    rw (e, f) (refl, c.opened.ensures)
