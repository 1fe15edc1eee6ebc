-- The run as numbers in a row, the layout that callers in C and Rust see (c/kaldvemir.h).
--
--   run_numbers r      size, stage, length, then the 51 items: 54 numbers
--   run_of l           the run that 54 numbers are
--   begin_numbers ..   the numbers after a beginning: the new run's, or, where it is refused, those that stood there
use Rattle.std.specs.Prelude.{List, ◌∷◌, ℕ, get_or, take, drop, Result, Ok, Err}
use Rattle.run_answers.specs.declared.Run.{Run}
use Rattle.refusals.specs.declared.Refusal.{Refusal}

abbrev pub run_numbers : Run → List ℕ
run_numbers r = r.size ∷ r.stage ∷ r.length ∷ r.items

abbrev pub run_of : List ℕ → Run
run_of l = record { size = get_or l 0 0; stage = get_or l 1 0; length = get_or l 2 0; items = take 51 (drop 3 l) }

abbrev pub begin_numbers : Result (Unit {0}) Refusal → Run → List ℕ → List ℕ
begin_numbers (Ok u) run old = run_numbers run
begin_numbers (Err e) run old = old
