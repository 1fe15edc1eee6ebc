-- What take, commit and release check first: the share where the ticket stands, or the refusal that comes before their own.
--
--   AskPromise b tick t asked   the promise of `ask`: asked is the share where the ticket t stands, or the refusal: 50, 52, 58 or 59
use Rattle.std.specs.Prelude.{◌≡◌, ℕ, Result, Ok, Err}
use Rattle.book.specs.declared.types.Book.{Book}
use Rattle.refusals.specs.declared.Refusal.{Refusal}
use Rattle.refusals.specs.Numbers.{number}
use Rattle.book.specs.Shares.{holder}
use Rattle.book.specs.Calls.{ticket_number}

abbrev pub AskPromise : Book → ℕ → ℕ → Result ℕ Refusal → Type 0
AskPromise b tick t (Ok j) = (j ≡ holder b t) × ((rest : ℕ) → ticket_number b tick t rest ≡ rest)
AskPromise b tick t (Err e) = (rest : ℕ) → ticket_number b tick t rest ≡ number e
