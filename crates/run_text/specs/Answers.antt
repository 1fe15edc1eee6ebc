-- The values of the answer of rows, or `old` where the call is refused. The number of a refusal is `refusal_number` (crate refusals).
--
--   rows_given, rows_bytes, rows_kept    how many rows, how many bytes, how many of the diagrams are kept
use Rattle.std.specs.Prelude.{ℕ, Result, Ok, Err}
use Rattle.refusals.specs.declared.Refusal.{Refusal}
use Rattle.run_text.specs.declared.TextRows.{TextRows}

abbrev pub rows_given : Result TextRows Refusal → ℕ → ℕ
rows_given (Ok t) old = t.rows
rows_given (Err e) old = old

abbrev pub rows_bytes : Result TextRows Refusal → ℕ → ℕ
rows_bytes (Ok t) old = t.bytes
rows_bytes (Err e) old = old

abbrev pub rows_kept : Result TextRows Refusal → ℕ → ℕ
rows_kept (Ok t) old = t.kept
rows_kept (Err e) old = old
