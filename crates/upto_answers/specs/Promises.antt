-- What the beginning and the step of a run through the single list promise, by the cases of their answers. The run is an iterator
-- over the single list, with a state that can be stored. Lists named a are as they were lent, lists named b as they are handed back.
--
--   blank_upto                  the run of no bound, all zeros: what a refused beginning hands back
--   fresh_upto n                the run of bound n before the first diagram
--   upto_at n w v               the run at the diagram of the word w, after v visits
--   upto_after n p              the run of bound n that has given p diagrams: fresh, or at the p-th with its visits
--   finished_upto n             the run after the last diagram, with that diagram's visits
--   UptoAt n p run             it is the run that has given p diagrams, of a bound 1..50
--   UptoFinished n run         it is a finished run, of a bound 1..50
use Rattle.std.specs.Prelude.{◌≡◌, ◌⊎◌, List, ◌++◌, ℕ, zero, suc, ◌-◌, ◌≤◌, ◌<◌, length, replicate, Option, Some, None, Result, Ok, Err}
use Rattle.lists.specs.Ranges.{OneTo}
use Rattle.words.specs.Outputs.{Short, Written, Untouched}
use Rattle.listing.specs.Diagrams.{diagram_of}
use Rattle.refusals.specs.declared.Refusal.{Refusal}
use Rattle.refusals.specs.Numbers.{number}
use Rattle.upto.specs.Upto.{total, word_upto, size_of}
use Rattle.upto.specs.Visits.{visits}
use Rattle.upto_answers.specs.declared.UptoRun.{UptoRun}
use Rattle.upto_answers.specs.declared.UptoGiven.{UptoGiven}
use Rattle.upto_answers.specs.Answers.{upto_size, upto_length, upto_visits}

abbrev pub blank_upto : UptoRun
blank_upto = record { bound = 0; stage = 0; length = 0; visits = 0; items = replicate 51 0 }

abbrev pub fresh_upto : ℕ → UptoRun
fresh_upto n = record { bound = n; stage = 0; length = 0; visits = 0; items = replicate 51 0 }

abbrev pub upto_at : ℕ → List ℕ → ℕ → UptoRun
upto_at n w v = record { bound = n; stage = 1; length = length w; visits = v; items = w ++ replicate (51 - length w) 0 }

abbrev pub upto_after : ℕ → ℕ → UptoRun
upto_after n zero = fresh_upto n
upto_after n (suc p) = upto_at n (word_upto n (suc p)) (visits n (suc p))

abbrev pub finished_upto : ℕ → UptoRun
finished_upto n = record { bound = n; stage = 2; length = 0; visits = visits n (total n); items = replicate 51 0 }

pub record UptoAt (n p : ℕ) (run : UptoRun) : Type 0 where
  pub bounded : OneTo 50 n
  pub within : p ≤ total n
  pub is : run ≡ upto_after n p

pub record UptoFinished (n : ℕ) (run : UptoRun) : Type 0 where
  pub bounded : OneTo 50 n
  pub is : run ≡ finished_upto n

-- 31: the bound is outside 1..50
abbrev pub UptoBeginPromise : ℕ → UptoRun → Result (Unit {0}) Refusal → Type 0
UptoBeginPromise n run (Ok u) = OneTo 50 n × (run ≡ fresh_upto n)
UptoBeginPromise n run (Err e) = (number e ≡ 31) × (¬ OneTo 50 n) × (run ≡ blank_upto)

-- 34: the run is neither fresh, nor at a diagram with its visits, nor finished with those of the last; 9: a diagram comes, and an output list is short for its size
abbrev pub RefusedUpto : UptoRun → List ℕ → List ℕ → List ℕ → ℕ → Type 0
RefusedUpto run a0 a1 aw k =
    ((k ≡ 34) × ((n p : ℕ) → ¬ UptoAt n p run) × ((n : ℕ) → ¬ UptoFinished n run))
    ⊎ ((k ≡ 9) × ((n : ℕ) × (p : ℕ) × UptoAt n p run × (p < total n) × Short (size_of (word_upto n (suc p))) a0 a1 aw))

-- a diagram given, the one after the p-th of bound n, with its size, its word's length and its visits
pub record UptoGives (n p : ℕ) (run next : UptoRun) (a0 a1 aw b0 b1 bw : List ℕ) (size m v : ℕ) : Type 0 where
  pub stood : UptoAt n p run
  pub more : p < total n
  pub room : ¬ Short size a0 a1 aw
  pub leaves : next ≡ upto_after n (suc p)
  pub size_is : size ≡ size_of (word_upto n (suc p))
  pub length_is : m ≡ length (word_upto n (suc p))
  pub visits_are : v ≡ visits n (suc p)
  pub written : Written (diagram_of (word_upto n (suc p))) (word_upto n (suc p)) a0 a1 aw b0 b1 bw

-- the run before and after, the lists before and after
abbrev pub UptoStepPromise : UptoRun → UptoRun → List ℕ → List ℕ → List ℕ → List ℕ → List ℕ → List ℕ → Result (Option UptoGiven) Refusal → Type 0
UptoStepPromise run next a0 a1 aw b0 b1 bw (Ok (Some g)) =
    (n : ℕ) × (p : ℕ)
    × UptoGives n p run next a0 a1 aw b0 b1 bw (upto_size (Ok (Some g)) 0) (upto_length (Ok (Some g)) 0) (upto_visits (Ok (Some g)) 0)
-- all have been given: no list is asked for room
UptoStepPromise run next a0 a1 aw b0 b1 bw (Ok None) =
    ((n : ℕ) × (next ≡ finished_upto n) × (UptoFinished n run ⊎ UptoAt n (total n) run)) × Untouched a0 a1 aw b0 b1 bw
UptoStepPromise run next a0 a1 aw b0 b1 bw (Err e) =
    RefusedUpto run a0 a1 aw (number e) × (next ≡ run) × Untouched a0 a1 aw b0 b1 bw
