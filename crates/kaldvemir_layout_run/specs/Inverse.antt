-- The layout of the run is inverse to taking it apart: no number is lost, none is invented.
--
--   RunLayoutInverse    54 numbers and a run (51 items) determine one another
-- and from Layout: run_numbers, run_of.
use Rattle.std.specs.Prelude.{◌≡◌, List, ℕ, length}
use Rattle.run_answers.specs.declared.Run.{Run}
use Rattle.kaldvemir_layout_run.specs.Layout.{run_numbers, run_of}

pub record RunLayoutInverse : Type 0 where
  -- taking 54 numbers apart and putting them together again gives the same numbers, and each run comes back from its numbers
  pub run_again : (l : List ℕ) → length l ≡ 54 → run_numbers (run_of l) ≡ l
  pub run_back : (r : Run) → length r.items ≡ 51 → (length (run_numbers r) ≡ 54) × (run_of (run_numbers r) ≡ r)
