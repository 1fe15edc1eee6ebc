-- What is promised of the diagram at the next position of a share.
--
--   GivenOf n j p tick .. answer c ..   of every book of size n where a ticket stands at share j, whose next position is p: a take with that
--                                       ticket at that tick answers and writes so, and leaves the book with the change c
use Rattle.std.specs.Prelude.{◌≡◌, List, ℕ, Result, Ok}
use Rattle.book.specs.declared.types.Book.{Book}
use Rattle.book.specs.declared.types.Change.{Change}
use Rattle.refusals.specs.declared.Refusal.{Refusal}
use Rattle.book.specs.declared.types.Taken.{Taken}
use Rattle.book.specs.Shares.{next}
use Rattle.book.specs.Changes.{changed, Placed}
use Rattle.book.specs.Taken.{TakePromise}
use Rattle.book_standing.specs.Ask.{AskPromise}

abbrev pub GivenOf : ℕ → ℕ → ℕ → ℕ → List ℕ → List ℕ → List ℕ → Result Taken Refusal → Change → List ℕ → List ℕ → List ℕ → Type 0
GivenOf n j p tick a0 a1 aw answer c b0 b1 bw =
    ((b : Book) (t : ℕ) → b.size ≡ n → AskPromise b tick t (Ok j) → p ≡ next b j → TakePromise b tick t a0 a1 aw answer (changed b c) b0 b1 bw) × Placed c
