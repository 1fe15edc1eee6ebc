-- `commit_range_core` meets its contract: what is decided on the book's parts is decided on the book.
use mathlib.Core.Path.{◌∙◌}
use Rattle.book_operations.proofs.commit_range_core.Goals as goal

pub returns : goal.returns
returns c =
    let q = rw c.heads-h.ensures at c.commit_range-choice.ensures in
    (q.0, c.changed.ensures ∙ q.1)
