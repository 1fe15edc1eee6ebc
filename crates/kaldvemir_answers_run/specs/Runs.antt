-- The numbers of a run after a call, of those that stood there, l.
--
--   FitsBegun answer next           the size, stage and length of a run that was begun fit 16 bits
--   step_numbers answer items l     after a step, with the items of the run that it leaves
--   list_numbers answer next l      after a listing that leaves the run next;  FitsRows, its stage and length fit 16 bits
use Rattle.std.specs.Prelude.{List, ◌∷◌, ℕ, ◌≤◌, get_or, Option, Some, None, Result, Ok, Err}
use Rattle.run_answers.specs.declared.Run.{Run}
use Rattle.refusals.specs.declared.Refusal.{Refusal}

abbrev pub FitsBegun : Result (Unit {0}) Refusal → Run → Type 0
FitsBegun (Ok u) next = (next.size ≤ 50) × (next.stage ≤ 2) × (next.length ≤ 51)
FitsBegun (Err e) next = Unit {0}

abbrev pub step_numbers : Result (Option ℕ) Refusal → List ℕ → List ℕ → List ℕ
step_numbers (Ok (Some m)) items l = get_or l 0 0 ∷ 1 ∷ m ∷ items
step_numbers (Ok None) items l = get_or l 0 0 ∷ 2 ∷ 0 ∷ items
step_numbers (Err e) items l = l

abbrev pub list_numbers : Result ℕ Refusal → Run → List ℕ → List ℕ
list_numbers (Ok k) next l = get_or l 0 0 ∷ next.stage ∷ next.length ∷ next.items
list_numbers (Err e) next l = l

abbrev pub FitsRows : Result ℕ Refusal → Run → Type 0
FitsRows (Ok k) next = (next.stage ≤ 2) × (next.length ≤ 51)
FitsRows (Err e) next = Unit {0}
