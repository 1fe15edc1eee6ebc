-- `change` meets its contract: entry j of a list stands j places after the list's beginning, less one.
use mathlib.Core.Path.{sym, ap, ◌∙◌}
use Rattle.book.specs.declared.types.Change.{Change}
use Rattle.book.specs.Changes.{changed}
use Rattle.kaldvemir_layout_book.specs.Layout.{book_in, book_numbers}
use Rattle.kaldvemir_layout_book.proofs.Changes.{book_again, latest-row, entries-row}
use Rattle.kaldvemir_layout_book.proofs.change.Goals as goal

pub returns-in-Nothing : goal.returns-in-Nothing
returns-in-Nothing c =
    sym (book_again c.args.numbers.now c.requires.0) ∙ sym (ap (λ (x : Change). book_numbers (changed (book_in c.args.numbers.now) x)) c.in-Nothing.is)

pub returns-in-Latest : goal.returns-in-Latest
returns-in-Latest c =
    latest-row c.args.numbers.now c.requires.0 _ ∙ sym (ap (λ (x : Change). book_numbers (changed (book_in c.args.numbers.now) x)) c.in-Latest.is)

pub returns-in-Entries : goal.returns-in-Entries
returns-in-Entries c =
    entries-row c.args.numbers.now c.requires.0 _ _ _ _ _ _ (rw c.in-Entries.is at c.requires.1) ∙ sym (ap (λ (x : Change). book_numbers (changed (book_in c.args.numbers.now) x)) c.in-Entries.is)
