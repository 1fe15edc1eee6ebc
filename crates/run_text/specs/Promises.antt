-- What rows promises: the text of the next rows of a run, over the beginning of a lent list of bytes. The list named a is as it was lent, the list
-- named b as it is handed back.
--
--   RowsPromise run asked a next b answer    34: the run is neither fresh, nor at a diagram, nor finished; 9: it is not finished, and the list has fewer
--                                            bytes than `asked` rows can need; a finished run: no rows; otherwise all the rows asked for, or all that
--                                            are left, and the run as that many steps would leave it
use Rattle.std.specs.Prelude.{◌≡◌, ◌⊎◌, List, ℕ, ◌-◌, ◌*◌, ◌≤◌, ◌<◌, min, length, Result, Ok, Err}
use Rattle.listing.specs.Listing.{count}
use Rattle.run_answers.specs.declared.Run.{Run}
use Rattle.run_answers.specs.Promises.{RunAt, RunFinished}
use Rattle.run_blocks_answers.specs.Promises.{RefusedList}
use Rattle.census_definition.specs.Census.{row_bytes}
use Rattle.census_blocks.specs.Blocks.{RowsText}
use Rattle.refusals.specs.declared.Refusal.{Refusal}
use Rattle.refusals.specs.Numbers.{number}
use Rattle.run_text.specs.declared.TextRows.{TextRows}
use Rattle.run_text.specs.Answers.{rows_given, rows_bytes, rows_kept}

abbrev pub RowsPromise : Run → ℕ → List ℕ → Run → List ℕ → Result TextRows Refusal → Type 0
RowsPromise run asked a next b (Ok t) =
    let told : Result TextRows Refusal = Ok t in
    (((n : ℕ) × RunFinished n run) × (told ≡ Ok record { rows = 0; bytes = 0; kept = 0 }) × (next ≡ run) × (b ≡ a))
    ⊎ ((n : ℕ) × (p : ℕ) × RunAt n p run × (asked * row_bytes n ≤ length a) × (rows_given told 0 ≡ min asked (count n - p))
    × RowsText n p (rows_given told 0) a (rows_bytes told 0) (rows_kept told 0) next b)
RowsPromise run asked a next b (Err e) =
    RefusedList run (λ n. length a < asked * row_bytes n) (number e) × (next ≡ run) × (b ≡ a)
