-- A book apart from its lists, and what a call alters in it.
--
--   heads_of b      the numbers of b apart from its lists
--   changed b c    the book b with the change c carried out
--   Placed c       the share whose entries c alters is one of 1..32
use Rattle.std.specs.Prelude.{ℕ}
use Rattle.lists.specs.Ranges.{OneTo}
use Rattle.book.specs.declared.types.Book.{Book}
use Rattle.book.specs.declared.types.Heads.{Heads}
use Rattle.book.specs.declared.types.Change.{Change}
use Rattle.book.specs.declared.types.Change.TheVariants.{Nothing, Latest, Entries}
use Rattle.book.specs.Calls.{entered, ticked}

abbrev pub heads_of : Book → Heads
heads_of b = record { size = b.size; shares = b.shares; latest = b.latest; issued = b.issued }

abbrev pub changed : Book → Change → Book
changed b Nothing = b
changed b (Latest tick) = ticked b tick
changed b (Entries tick issues j p t e) = entered b tick issues j p t e

abbrev pub Placed : Change → Type 0
Placed Nothing = Unit {0}
Placed (Latest tick) = Unit {0}
Placed (Entries tick issues j p t e) = OneTo 32 j
