-- The value of the answer of a listing in blocks, or `old` where the listing is refused. The number of a refusal is `refusal_number` (crate refusals).
--
--   list_rows answer old   how many diagrams were written
use Rattle.std.specs.Prelude.{ℕ, Result, Ok, Err}
use Rattle.refusals.specs.declared.Refusal.{Refusal}

abbrev pub list_rows : Result ℕ Refusal → ℕ → ℕ
list_rows (Ok k) old = k
list_rows (Err e) old = old
