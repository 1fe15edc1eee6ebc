-- The value of a step's answer, or `old` where the step is refused. The number of a refusal is `refusal_number` (crate refusals).
--
--   step_length answer old   the word's length, 0 for "end"
use Rattle.std.specs.Prelude.{ℕ, Option, Some, None, Result, Ok, Err}
use Rattle.refusals.specs.declared.Refusal.{Refusal}

abbrev pub step_length : Result (Option ℕ) Refusal → ℕ → ℕ
step_length (Ok (Some m)) old = m
step_length (Ok None) old = 0
step_length (Err e) old = old
