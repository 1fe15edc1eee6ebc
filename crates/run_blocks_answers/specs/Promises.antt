-- What a listing in blocks promises, by the cases of its answer: it writes what as many steps of the run would write, one
-- diagram after another, and leaves the run as they would. Lists named a are as they were lent, lists named b as they are handed back.
--
--   NoRows ..                        the run is finished: no rows
--   RefusedList ..                   34: the run is neither fresh, nor at a diagram, nor finished; 9: it is not finished, and an output list is short
--   ListPromise run rows ..          the promise of `list`
--   MarkedRowsGiven ..               the rows, and their keep marks
--   ListMarkedPromise run rows ..    the promise of `list_marked`
-- and from run_rows_writing: ShortRows, Block, RunAfterRows, RowsGiven.
use Rattle.std.specs.Prelude.{◌≡◌, ◌⊎◌, List, ℕ, ◌≤◌, ◌<◌, length, Result, Ok, Err}
use Rattle.run_answers.specs.declared.Run.{Run}
use Rattle.run_answers.specs.Promises.{RunAt, RunFinished}
use Rattle.refusals.specs.declared.Refusal.{Refusal}
use Rattle.refusals.specs.Numbers.{number}
use Rattle.run_blocks_answers.specs.Answers.{list_rows}
use Rattle.run_marks.specs.Marks.{MarksWritten}
pub use Rattle.run_rows_writing.specs.Promises.{ShortRows, Block, RunAfterRows, RowsGiven}

pub record ListsUntouched (a0 a1 aw al b0 b1 bw bl : List ℕ) : Type 0 where
  pub s0_same : b0 ≡ a0
  pub s1_same : b1 ≡ a1
  pub words_same : bw ≡ aw
  pub lengths_same : bl ≡ al

-- a run that is finished answers no rows, and all stays as it was
abbrev pub NoRows : Run → ℕ → Run → List ℕ → List ℕ → List ℕ → List ℕ → List ℕ → List ℕ → List ℕ → List ℕ → Type 0
NoRows run k next a0 a1 aw al b0 b1 bw bl = ((n : ℕ) × RunFinished n run) × (k ≡ 0) × (next ≡ run) × ListsUntouched a0 a1 aw al b0 b1 bw bl

-- Short n says that an output list is short at size n
abbrev pub RefusedList : Run → (ℕ → Type 0) → ℕ → Type 0
RefusedList run Short k =
    ((k ≡ 34) × ((n p : ℕ) → ¬ RunAt n p run) × ((n : ℕ) → ¬ RunFinished n run)) ⊎ ((k ≡ 9) × ((n : ℕ) × (p : ℕ) × RunAt n p run × Short n))

-- the run and the rows asked for, the lists before; the run and the lists after
abbrev pub ListPromise : Run → ℕ → List ℕ → List ℕ → List ℕ → List ℕ → Run → List ℕ → List ℕ → List ℕ → List ℕ → Result ℕ Refusal → Type 0
ListPromise run rows a0 a1 aw al next b0 b1 bw bl (Ok k) =
    let run_after = list_rows (Ok k) 0 in
    NoRows run run_after next a0 a1 aw al b0 b1 bw bl ⊎ RowsGiven run rows run_after next a0 a1 aw al b0 b1 bw bl
ListPromise run rows a0 a1 aw al next b0 b1 bw bl (Err e) =
    RefusedList run (λ n. ShortRows n rows a0 a1 aw al) (number e) × (next ≡ run) × ListsUntouched a0 a1 aw al b0 b1 bw bl

-- ---- with the keep marks: a listing, and the marks of its rows

pub record MarkedRowsGiven (run : Run) (rows k : ℕ) (next : Run) (a0 a1 aw al am b0 b1 bw bl bm : List ℕ) : Type 0 where
  pub gave : RowsGiven run rows k next a0 a1 aw al b0 b1 bw bl
  pub roomy_marks : rows ≤ length am
  pub marked : MarksWritten gave.size gave.place k am bm

abbrev pub ListMarkedPromise : Run → ℕ → List ℕ → List ℕ → List ℕ → List ℕ → List ℕ → Run → List ℕ → List ℕ → List ℕ → List ℕ → List ℕ → Result ℕ Refusal → Type 0
ListMarkedPromise run rows a0 a1 aw al am next b0 b1 bw bl bm (Ok k) =
    let run_after = list_rows (Ok k) 0 in
    (NoRows run run_after next a0 a1 aw al b0 b1 bw bl × (bm ≡ am)) ⊎ MarkedRowsGiven run rows run_after next a0 a1 aw al am b0 b1 bw bl bm
ListMarkedPromise run rows a0 a1 aw al am next b0 b1 bw bl bm (Err e) =
    RefusedList run (λ n. ShortRows n rows a0 a1 aw al ⊎ (length am < rows)) (number e) × (next ≡ run) × ListsUntouched a0 a1 aw al b0 b1 bw bl × (bm ≡ am)
