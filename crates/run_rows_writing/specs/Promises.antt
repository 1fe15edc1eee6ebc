-- The rows of a block: what as many steps of the run would write (document 01, "Run"), one diagram after another, and the run as they
-- would leave it. Lists named a are as they were lent, lists named b as they are handed back.
--
--   run_of n stage len items         the run of these fields
--   ShortRows n rows ..             an output list is short for that many diagrams of n edges: rows · n, rows · n, rows · (n + 1), rows (refusal 9)
--   Block n p k ..                  the lists hold the k diagrams after position p, and after them what they held
--   RunAfterRows n p rows k next    k is how many of the rows asked for the list still has after position p, and next is the run after them
--   RowsGiven ..                    a run that is not finished: the rows, and the run after them
use Rattle.std.specs.Prelude.{◌≡◌, ◌⊎◌, List, ℕ, suc, ◌+◌, ◌*◌, ◌≤◌, ◌<◌, length}
use Rattle.lists.specs.Overwriting.{overwrite}
use Rattle.listing.specs.Listing.{count}
use Rattle.run_answers.specs.declared.Run.{Run}
use Rattle.run_answers.specs.Promises.{run_after, finished, RunAt}
use Rattle.run_row.specs.Rows.{blacks, whites, flat_words, lengths}

abbrev pub run_of : ℕ → ℕ → ℕ → List ℕ → Run
run_of n stage len items = record { size = n; stage = stage; length = len; items = items }

abbrev pub ShortRows : ℕ → ℕ → List ℕ → List ℕ → List ℕ → List ℕ → Type 0
ShortRows n rows a0 a1 aw al = (length a0 < rows * n) ⊎ ((length a1 < rows * n) ⊎ ((length aw < rows * suc n) ⊎ (length al < rows)))

pub record Block (n p k : ℕ) (a0 a1 aw al b0 b1 bw bl : List ℕ) : Type 0 where
  pub s0_written : b0 ≡ overwrite (blacks n p k) a0
  pub s1_written : b1 ≡ overwrite (whites n p k) a1
  pub words_written : bw ≡ overwrite (flat_words n p k) aw
  pub lengths_written : bl ≡ overwrite (lengths n p k) al

-- all the rows asked for, or all that are left: then the run is finished
abbrev pub RunAfterRows : ℕ → ℕ → ℕ → ℕ → Run → Type 0
RunAfterRows n p rows k next = ((k ≡ rows) × (p + k ≤ count n) × (next ≡ run_after n (p + k))) ⊎ ((k < rows) × (p + k ≡ count n) × (next ≡ finished n))

-- the rows of a run that is not finished
pub record RowsGiven (run : Run) (rows k : ℕ) (next : Run) (a0 a1 aw al b0 b1 bw bl : List ℕ) : Type 0 where
  pub size : ℕ
  pub place : ℕ
  pub stands : RunAt size place run
  pub roomy : ¬ ShortRows size rows a0 a1 aw al
  pub leaves : RunAfterRows size place rows k next
  pub written : Block size place k a0 a1 aw al b0 b1 bw bl
