-- What the decisions on a claim and on a release promise: the operation's answer, and a change that leaves the operation's book.
--
--   ClaimOf b tick j len answer c     the claim of share j at that tick for len ticks
--   ReleaseOf b tick t answer c       the release of the ticket t
use Rattle.std.specs.Prelude.{◌≡◌, ℕ, Result}
use Rattle.book.specs.declared.types.Book.{Book}
use Rattle.book.specs.declared.types.Change.{Change}
use Rattle.refusals.specs.declared.Refusal.{Refusal}
use Rattle.book.specs.Changes.{changed, Placed}
use Rattle.book.specs.Calls.{claim_answer, claim_book, release_answer, release_book}

abbrev pub ClaimOf : Book → ℕ → ℕ → ℕ → Result ℕ Refusal → Change → Type 0
ClaimOf b tick j len answer c = (answer ≡ claim_answer b tick j len) × (changed b c ≡ claim_book b tick j len) × Placed c

abbrev pub ReleaseOf : Book → ℕ → ℕ → Result (Unit {0}) Refusal → Change → Type 0
ReleaseOf b tick t answer c = (answer ≡ release_answer b tick t) × (changed b c ≡ release_book b tick t) × Placed c
