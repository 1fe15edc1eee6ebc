-- The length that `letters` answers, or `old` where it refuses. The number of its refusal is `refusal_number` of crate refusals.
use Rattle.std.specs.Prelude.{ℕ, Result, Ok, Err}
use Rattle.refusals.specs.declared.Refusal.{Refusal}

abbrev pub letters_length : Result ℕ Refusal → ℕ → ℕ
letters_length (Ok n) old = n
letters_length (Err e) old = old
