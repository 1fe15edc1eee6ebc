-- The values of the answer of a step through the single list, or `old` where the answer has no such value. The number of a refusal is `refusal_number`
-- (crate refusals).
--
--   upto_size, upto_length, upto_visits    the diagram's size, its word's length and the branch visits so far; the end has size and length 0
use Rattle.std.specs.Prelude.{ℕ, Option, Some, None, Result, Ok, Err}
use Rattle.refusals.specs.declared.Refusal.{Refusal}
use Rattle.upto_answers.specs.declared.UptoGiven.{UptoGiven}

abbrev pub upto_size : Result (Option UptoGiven) Refusal → ℕ → ℕ
upto_size (Ok (Some g)) old = g.size
upto_size (Ok None) old = 0
upto_size (Err e) old = old

abbrev pub upto_length : Result (Option UptoGiven) Refusal → ℕ → ℕ
upto_length (Ok (Some g)) old = g.length
upto_length (Ok None) old = 0
upto_length (Err e) old = old

abbrev pub upto_visits : Result (Option UptoGiven) Refusal → ℕ → ℕ
upto_visits (Ok (Some g)) old = g.visits
upto_visits (Ok None) old = old
upto_visits (Err e) old = old
