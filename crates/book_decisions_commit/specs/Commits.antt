-- What the decision on a commit promises: the operation's answer, and a change that leaves the operation's book.
--
--   CommitOf b tick t p answer c   the commit of the position p with the ticket t
use Rattle.std.specs.Prelude.{◌≡◌, ℕ, Result}
use Rattle.book.specs.declared.types.Book.{Book}
use Rattle.book.specs.declared.types.Change.{Change}
use Rattle.refusals.specs.declared.Refusal.{Refusal}
use Rattle.book.specs.Changes.{changed, Placed}
use Rattle.book.specs.Calls.{commit_answer, commit_book}

abbrev pub CommitOf : Book → ℕ → ℕ → ℕ → Result (Unit {0}) Refusal → Change → Type 0
CommitOf b tick t p answer c = (answer ≡ commit_answer b tick t p) × (changed b c ≡ commit_book b tick t p) × Placed c
