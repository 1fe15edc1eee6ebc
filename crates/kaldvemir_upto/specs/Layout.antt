-- A run through all sizes up to a bound as callers in C and Rust see it (c/kaldvemir.h): 54 numbers in a row, as those of the plain run with the bound
-- in the size's place, and beside them the visits.
--
--   upto_numbers r              bound, stage, length, then the 51 items
--   upto_of l v                 the run that 54 numbers and visits are
--   upto_begin_numbers ..       the numbers after a beginning: the new run's, or, where it is refused, those that stood there
--   upto_begin_visits ..        the visits after a beginning, likewise
--   UptoLayoutInverse           numbers with visits, and a run (51 items), determine one another
use Rattle.std.specs.Prelude.{◌≡◌, List, ◌∷◌, ℕ, length, get_or, take, drop, Result, Ok, Err}
use Rattle.refusals.specs.declared.Refusal.{Refusal}
use Rattle.upto_answers.specs.declared.UptoRun.{UptoRun}

abbrev pub upto_numbers : UptoRun → List ℕ
upto_numbers r = r.bound ∷ r.stage ∷ r.length ∷ r.items

abbrev pub upto_of : List ℕ → ℕ → UptoRun
upto_of l v = record { bound = get_or l 0 0; stage = get_or l 1 0; length = get_or l 2 0; visits = v; items = take 51 (drop 3 l) }

abbrev pub upto_begin_numbers : Result (Unit {0}) Refusal → UptoRun → List ℕ → List ℕ
upto_begin_numbers (Ok u) run old = upto_numbers run
upto_begin_numbers (Err e) run old = old

abbrev pub upto_begin_visits : Result (Unit {0}) Refusal → UptoRun → ℕ → ℕ
upto_begin_visits (Ok u) run old = run.visits
upto_begin_visits (Err e) run old = old

pub record UptoLayoutInverse : Type 0 where
  pub again : (l : List ℕ) (v : ℕ) → length l ≡ 54 → (upto_numbers (upto_of l v) ≡ l) × ((upto_of l v).visits ≡ v)
  pub back : (r : UptoRun) → length r.items ≡ 51 → (length (upto_numbers r) ≡ 54) × (upto_of (upto_numbers r) r.visits ≡ r)
