-- The value of an answer of the plain walk, where it has one, or `old` where it has none. The number of its refusal is refusal_number's (crate refusals).
--
--   walk_count            how many numbers were written
use Rattle.std.specs.Prelude.{ℕ, Result, Ok, Err}
use Rattle.refusals.specs.declared.Refusal.{Refusal}

abbrev pub walk_count : Result ℕ Refusal → ℕ → ℕ
walk_count (Ok m) old = m
walk_count (Err e) old = old
