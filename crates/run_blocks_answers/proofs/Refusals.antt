-- What a listing promises before its first row: the refusals, and a run that is finished.
use mathlib.Core.Path.{◌≡◌, refl}
use mathlib.Core.Logic.{◌≢◌}
use mathlib.Core.List.{List}
use Prim.Native.Nat.{ℕ}
use Rattle.run_answers.specs.declared.Run.{Run}
use Rattle.run_answers.specs.Promises.{RunAt, RunFinished}
use Rattle.run_validity.specs.Valid.{ValidRun}
use Rattle.run_validity.proofs.Standing.{Standing, standing, finished-over, over-valid, stands-valid}
use Rattle.run_blocks_answers.specs.Promises.{ListsUntouched}

pub same_lists : (a0 a1 aw al : List ℕ) → ListsUntouched a0 a1 aw al a0 a1 aw al
same_lists a0 a1 aw al = record { s0_same = refl; s1_same = refl; words_same = refl; lengths_same = refl }

-- neither fresh, nor at a diagram, nor finished
pub stands-nowhere : (run : Run) → ¬ ValidRun run → ((n p : ℕ) → ¬ RunAt n p run) × ((n : ℕ) → ¬ RunFinished n run)
stands-nowhere run k = (λ n p T. k (stands-valid n p run T), λ n O. k (over-valid n run O))

pub is-over : (run : Run) → ValidRun run → run.stage ≡ 2 → (n : ℕ) × RunFinished n run
is-over run S z = (run.size, finished-over run S z)

-- where a run stands that is not finished
pub stands_at : (run : Run) → ValidRun run → run.stage ≢ 2 → (p : ℕ) × RunAt run.size p run
stands_at run S z = let T = standing run S z in (T.place, T.stands)
