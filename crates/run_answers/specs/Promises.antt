-- What the beginning of a run, first or at a position, and its step promise, by the cases of their answers. A run is an iterator over the list of a size, with a state that can be stored.
-- Lists named a are as they were lent, lists named b as they are handed back.
--
--   blank                              the run of no size, all zeros: what a refused beginning hands back
--   fresh n, at_word n w, finished n    the runs of size n: before the first diagram, at the diagram of the word w, after the last
--   run_after n p                       the run of size n that has given p diagrams: fresh, or at the p-th
--   RunAt n p run                      it is that run, of a size 1..50
use Rattle.std.specs.Prelude.{◌≡◌, ◌⊎◌, List, [], ◌++◌, ℕ, zero, suc, ◌-◌, ◌≤◌, ◌<◌, length, replicate, Option, Some, None, Result, Ok, Err}
use Rattle.lists.specs.Ranges.{OneTo}
use Rattle.words.specs.Outputs.{Short, Written, Untouched}
use Rattle.listing.specs.Listing.{count}
use Rattle.listing.specs.Position.{word_at}
use Rattle.listing.specs.Diagrams.{diagram_at}
use Rattle.run_answers.specs.declared.Run.{Run}
use Rattle.run_answers.specs.Answers.{step_length}
use Rattle.refusals.specs.declared.Refusal.{Refusal}
use Rattle.refusals.specs.Numbers.{number}

abbrev pub blank : Run
blank = record { size = 0; stage = 0; length = 0; items = replicate 51 0 }

abbrev pub fresh : ℕ → Run
fresh n = record { size = n; stage = 0; length = 0; items = replicate 51 0 }

abbrev pub at_word : ℕ → List ℕ → Run
at_word n w = record { size = n; stage = 1; length = length w; items = w ++ replicate (51 - length w) 0 }

abbrev pub finished : ℕ → Run
finished n = record { size = n; stage = 2; length = 0; items = replicate 51 0 }

abbrev pub run_after : ℕ → ℕ → Run
run_after n zero = fresh n
run_after n (suc p) = at_word n (word_at n (suc p))

pub record RunAt (n p : ℕ) (run : Run) : Type 0 where
  pub sized : OneTo 50 n
  pub within : p ≤ count n
  pub is : run ≡ run_after n p

-- a finished run of a size 1..50
pub record RunFinished (n : ℕ) (run : Run) : Type 0 where
  pub sized : OneTo 50 n
  pub is : run ≡ finished n

-- 31: the size is outside 1..50
abbrev pub BeginPromise : ℕ → Run → Result (Unit {0}) Refusal → Type 0
BeginPromise n run (Ok u) = OneTo 50 n × (run ≡ fresh n)
BeginPromise n run (Err e) = (number e ≡ 31) × (¬ OneTo 50 n) × (run ≡ blank)

-- 31: the size is outside 1..50; 32: the position is above the count. Otherwise the run that has given p diagrams
abbrev pub BeginAtPromise : ℕ → ℕ → Run → Result (Unit {0}) Refusal → Type 0
BeginAtPromise n p run (Ok u) = RunAt n p run
BeginAtPromise n p run (Err e) =
    (((number e ≡ 31) × (¬ OneTo 50 n)) ⊎ ((number e ≡ 32) × OneTo 50 n × (count n < p))) × (run ≡ blank)

-- 34: the run is neither fresh, nor at a diagram, nor finished; 9: it is not finished, and an output list is short
abbrev pub RefusedStep : Run → List ℕ → List ℕ → List ℕ → ℕ → Type 0
RefusedStep run a0 a1 aw k =
    ((k ≡ 34) × ((n p : ℕ) → ¬ RunAt n p run) × ((n : ℕ) → ¬ RunFinished n run))
    ⊎ ((k ≡ 9) × ((n : ℕ) × (p : ℕ) × RunAt n p run × Short n a0 a1 aw))

-- the run before and after, the lists before and after
abbrev pub StepPromise : Run → Run → List ℕ → List ℕ → List ℕ → List ℕ → List ℕ → List ℕ → Result (Option ℕ) Refusal → Type 0
StepPromise run next a0 a1 aw b0 b1 bw (Ok (Some m)) =
    (n : ℕ) × (p : ℕ) × RunAt n p run × (p < count n) × (¬ Short n a0 a1 aw) × (next ≡ run_after n (suc p)) × (step_length (Ok (Some m)) 0 ≡ length (word_at n (suc p)))
    × Written (diagram_at n (suc p)) (word_at n (suc p)) a0 a1 aw b0 b1 bw
StepPromise run next a0 a1 aw b0 b1 bw (Ok None) =
    ((n : ℕ) × (next ≡ finished n) × (RunFinished n run ⊎ (RunAt n (count n) run × (¬ Short n a0 a1 aw)))) × Untouched a0 a1 aw b0 b1 bw
StepPromise run next a0 a1 aw b0 b1 bw (Err e) = RefusedStep run a0 a1 aw (number e) × (next ≡ run) × Untouched a0 a1 aw b0 b1 bw
