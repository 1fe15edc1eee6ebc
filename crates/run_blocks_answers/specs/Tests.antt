-- What the tests before a block's first row say, of the run and of the lengths of the output lists.
--
--   ShortLengths n rows m0 m1 mw ml             a list is short for so many diagrams of n edges, by the lists' lengths
--   TestedPromise run rows m0 m1 mw ml answer   the promise of `tested`
use Rattle.std.specs.Prelude.{◌⊎◌, ℕ, suc, ◌*◌, ◌<◌, Result, Ok, Err}
use Rattle.run_answers.specs.declared.Run.{Run}
use Rattle.run_answers.specs.Promises.{RunAt, RunFinished}
use Rattle.run_blocks_answers.specs.declared.Readiness.{Readiness}
use Rattle.run_blocks_answers.specs.declared.Readiness.TheVariants.{Ready, Finished}
use Rattle.refusals.specs.declared.Refusal.{Refusal}
use Rattle.refusals.specs.Numbers.{number}
use Rattle.run_blocks_answers.specs.Promises.{RefusedList}

abbrev pub ShortLengths : ℕ → ℕ → ℕ → ℕ → ℕ → ℕ → Type 0
ShortLengths n rows m0 m1 mw ml = (m0 < rows * n) ⊎ ((m1 < rows * n) ⊎ ((mw < rows * suc n) ⊎ (ml < rows)))

abbrev pub TestedPromise : Run → ℕ → ℕ → ℕ → ℕ → ℕ → Result Readiness Refusal → Type 0
TestedPromise run rows m0 m1 mw ml (Ok Ready) = (p : ℕ) × RunAt run.size p run × (¬ ShortLengths run.size rows m0 m1 mw ml)
TestedPromise run rows m0 m1 mw ml (Ok Finished) = (n : ℕ) × RunFinished n run
TestedPromise run rows m0 m1 mw ml (Err e) = RefusedList run (λ n. ShortLengths n rows m0 m1 mw ml) (number e)
