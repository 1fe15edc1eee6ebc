-- What kept count promises: how many diagrams of a size are kept.
--
--   BlockCounted n p rows kept next   a block of the run of size n that has given p diagrams: it has `rows` diagrams, 48 or all that are left, `kept` of
--                                     them are kept, and next is the run after it
--   KeptCountPromise n answer         the promise of kept count
-- and from elsewhere: kept_among, kept_count (census_definition, Census); RunAfterRows (run_rows_writing, Promises).
use Rattle.std.specs.Prelude.{◌≡◌, ℕ, Result, Ok, Err}
use Rattle.lists.specs.Ranges.{OneTo}
use Rattle.listing_ranking.specs.Answers.{count_total}
use Rattle.refusals.specs.declared.Refusal.{Refusal}
use Rattle.refusals.specs.Numbers.{number}
use Rattle.run_answers.specs.declared.Run.{Run}
use Rattle.run_rows_writing.specs.Promises.{RunAfterRows}
use Rattle.census_definition.specs.Census.{kept_among, kept_count}

pub record BlockCounted (n p rows kept : ℕ) (next : Run) : Type 0 where
  pub leaves : RunAfterRows n p 48 rows next
  pub counted : kept ≡ kept_among n p rows

-- 31: the size is outside 1..50
abbrev pub KeptCountPromise : ℕ → Result ℕ Refusal → Type 0
KeptCountPromise n (Ok c) = OneTo 50 n × (count_total (Ok c) 0 ≡ kept_count n)
KeptCountPromise n (Err e) = (number e ≡ 31) × (¬ OneTo 50 n)
