-- The value of an answer of count, diagram at a position and position of a diagram, where it has one, or `old` where it has none. The number of
-- its refusal is refusal_number's (crate refusals).
--
--   count_total         the number of diagrams
--   entry_length        the word's length, of diagram at a position
--   located_position    the position, of position of a diagram
use Rattle.std.specs.Prelude.{ℕ, Result, Ok, Err}
use Rattle.refusals.specs.declared.Refusal.{Refusal}

abbrev pub count_total : Result ℕ Refusal → ℕ → ℕ
count_total (Ok c) old = c
count_total (Err e) old = old

abbrev pub entry_length : Result ℕ Refusal → ℕ → ℕ
entry_length (Ok m) old = m
entry_length (Err e) old = old

abbrev pub located_position : Result ℕ Refusal → ℕ → ℕ
located_position (Ok p) old = p
located_position (Err e) old = old
