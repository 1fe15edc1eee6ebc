-- `open` meets its contract: what is decided of a blank book is decided of the lent one, which a refusal leaves.
use mathlib.Core.Path.{◌≡◌, sym, ◌∙◌, ap}
use lib.ListN.{length}
use Rattle.std.specs.Prelude.{Ok, Err}
use Rattle.book.specs.Calls.{open_answer}
use Rattle.kaldvemir_layout_book.specs.Layout.{book_in, book_numbers}
use Rattle.kaldvemir_layout_book.proofs.Changes.{book_again}
use Rattle.kaldvemir_book.proofs.Opened.{opening-refused, opening-accepted}
use borrow.Author.Rules.{rules}
use Rattle.kaldvemir_book.proofs.open.Goals as goal

pub returns-in-Err : goal.returns-in-Err
returns-in-Err c =
    let k = c.open_core-done.ensures in
    let r : open_answer c.args.size c.args.shares ≡ Err c.in-Err.refusal = sym k.0 ∙ c.in-Err.is in
    let h : length c.args.book.now ≡ 100 = search rules in
    (sym r, sym (ap book_numbers (opening-refused (book_in c.args.book.now) _ _ _ r) ∙ book_again c.args.book.now h))

pub returns-in-Ok : goal.returns-in-Ok
returns-in-Ok c =
    let k = c.open_core-done.ensures in
    let r : open_answer c.args.size c.args.shares ≡ Ok tt = sym k.0 ∙ c.in-Ok.is in
    (sym r, c.put_back.ensures ∙ ap book_numbers (k.1 ∙ opening-accepted _ (book_in c.args.book.now) _ _ r))
