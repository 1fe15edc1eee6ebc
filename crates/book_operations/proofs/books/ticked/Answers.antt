-- `ticked` meets its contract.
use mathlib.Core.Path.{refl}
use Rattle.book.specs.Calls.{ticked}
use Rattle.book_operations.proofs.books.ticked.Goals as goal

pub returns : goal.returns
returns c = unfold ticked in refl
