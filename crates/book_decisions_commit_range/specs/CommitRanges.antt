-- What the decision on a range of commits promises: the operation's answer, and a change that leaves the operation's book.
--
--   CommitRangeOf b tick t p q answer c   the commits of the positions p, .., q with the ticket t
use Rattle.std.specs.Prelude.{◌≡◌, ℕ, Result}
use Rattle.book.specs.declared.types.Book.{Book}
use Rattle.book.specs.declared.types.Change.{Change}
use Rattle.refusals.specs.declared.Refusal.{Refusal}
use Rattle.book.specs.Changes.{changed, Placed}
use Rattle.book.specs.Calls.{commit_range_answer, commit_range_book}

abbrev pub CommitRangeOf : Book → ℕ → ℕ → ℕ → ℕ → Result (Unit {0}) Refusal → Change → Type 0
CommitRangeOf b tick t p q answer c = (answer ≡ commit_range_answer b tick t p q) × (changed b c ≡ commit_range_book b tick t p q) × Placed c
