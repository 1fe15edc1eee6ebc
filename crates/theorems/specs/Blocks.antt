-- The other ways to list agree with the run (document 01, "Run", "The plain walk"): a listing in blocks is a history of steps, and the plain walk
-- writes the words that a run gives. Rows are those of the second list, read off the lists that the steps handed back.
--
--   column f rs                 the lists f r of the rows r of rs, one after another
--   lengths_of rs                the lengths of the words of the rows rs
--   gave_length m              the answer of a step that gave a word of length m
--   BlockAnswers n k asked ..   the steps answer with the lengths of the words of their rows, and then "end" where fewer rows than asked for were
--                               left
--   AsSteps run asked k ..      a listing of `asked` rows that gave k: steps that lead from `run` to the run that it left, and gave the rows that it
--                               wrote
--   AsRefused run ..            a refused listing: a step that is refused for the same reason, and alters nothing either
--   MarkedAsSteps ..            a listing with keep marks: a listing, and the marks of its rows
--   Did .., DidMarked ..        what a listing did, without and with keep marks, by its answer
--   WalkAgrees n steps ..       the plain walk wrote the words of the rows that the steps gave
-- and from elsewhere: Step, History, written, rows, row_at (SecondList); ListPromise, ListMarkedPromise, MarkOf (run_blocks); PlainWalkPromise, concatenated
-- (listing_plain_walk).
use Rattle.std.specs.Prelude.{◌≡◌, ◌⊎◌, List, [], ◌∷◌, ◌++◌, map, ℕ, ◌<◌, length, Option, Some, None, Result, Ok, Err}
use Rattle.lists.specs.Lists.{at}
use Rattle.lists.specs.Ranges.{OneTo}
use Rattle.words.specs.Outputs.{overwrite}
use Rattle.listing.specs.Listing.{count}
use Rattle.refusals.specs.declared.Refusal.{Refusal}
use Rattle.listing_plain_walk.specs.Promises.{concatenated, PlainWalkPromise}
use Rattle.run_answers.specs.declared.Run.{Run}
use Rattle.run_steps.specs.Promises.{BeginPromise}
use Rattle.run_blocks.specs.Rows.{MarkOf}
use Rattle.run_blocks.specs.Promises.{ListPromise, ListMarkedPromise}
use Rattle.theorems.specs.SecondList.{Step, Happened, History, written, Row, rows, row_at}

abbrev pub column : (Row → List ℕ) → List Row → List ℕ
column f rs = concatenated (map f rs)

abbrev pub lengths_of : List Row → List ℕ
lengths_of rs = map (λ (r : Row). length r.word) rs

-- ---- the listing in blocks; lists named a are as they were lent, lists named b as they are handed back

-- the answer of a step that gave a word of that length
abbrev pub gave_length : ℕ → Result (Option ℕ) Refusal
gave_length m = Ok (Some m)

abbrev pub BlockAnswers : ℕ → ℕ → ℕ → List Step → Type 0
BlockAnswers n k asked steps =
    ((k ≡ asked) × (map (λ (s : Step). s.answer) steps ≡ map gave_length (lengths_of (rows n steps))))
    ⊎ ((k < asked) × (map (λ (s : Step). s.answer) steps ≡ map gave_length (lengths_of (rows n steps)) ++ (Ok None ∷ [])))

pub record AsSteps (run : Run) (asked k : ℕ) (a0 a1 aw al : List ℕ) (next : Run) (b0 b1 bw bl : List ℕ) : Type 0 where
  -- some steps, one after another, lead from the run to the one that the listing left
  pub steps : List Step
  pub history : History run steps next
  -- k of them gave a diagram, as many as were asked for, and there are no others; or fewer were left, and one step more answered "end"
  pub gave : written steps ≡ k
  pub answers : BlockAnswers run.size k asked steps
  -- the lists hold the rows that these steps gave, one after another, and after them what they held
  pub s0_written : b0 ≡ overwrite (column (λ r. r.diagram.black) (rows run.size steps)) a0
  pub s1_written : b1 ≡ overwrite (column (λ r. r.diagram.white) (rows run.size steps)) a1
  pub words_written : bw ≡ overwrite (column (λ r. r.word) (rows run.size steps)) aw
  pub lengths_written : bl ≡ overwrite (lengths_of (rows run.size steps)) al
  -- and whatever steps of that run give as many diagrams give these rows
  pub only : (others : List Step) (end : Run) → History run others end → written others ≡ k → rows run.size others ≡ rows run.size steps

pub record AsRefused (run : Run) (refusal : Refusal) (next : Run) : Type 0 where
  pub step : Step
  pub happened : Happened run next step
  pub refused : step.answer ≡ Err refusal

abbrev pub Did : Run → ℕ → List ℕ → List ℕ → List ℕ → List ℕ → Run → List ℕ → List ℕ → List ℕ → List ℕ → Result ℕ Refusal → Type 0
Did run asked a0 a1 aw al next b0 b1 bw bl (Ok k) = AsSteps run asked k a0 a1 aw al next b0 b1 bw bl
Did run asked a0 a1 aw al next b0 b1 bw bl (Err e) = AsRefused run e next

-- Every listing in blocks is a history of steps.
abbrev pub BlocksAreSteps : Type 0
BlocksAreSteps = (run : Run) (asked : ℕ) (a0 a1 aw al : List ℕ) (next : Run) (b0 b1 bw bl : List ℕ) (answer : Result ℕ Refusal)
    → ListPromise run asked a0 a1 aw al next b0 b1 bw bl answer → Did run asked a0 a1 aw al next b0 b1 bw bl answer

pub record MarkedAsSteps (run : Run) (asked k : ℕ) (a0 a1 aw al am : List ℕ) (next : Run) (b0 b1 bw bl bm : List ℕ) : Type 0 where
  pub as_steps : AsSteps run asked k a0 a1 aw al next b0 b1 bw bl
  -- the marks written are those of the rows that the steps gave, in order
  pub marks : List ℕ
  pub long : length marks ≡ k
  pub each : (p : ℕ) → OneTo k p → MarkOf (row_at (rows run.size as_steps.steps) p).diagram (at marks p)
  pub marks_written : bm ≡ overwrite marks am

abbrev pub DidMarked : Run → ℕ → List ℕ → List ℕ → List ℕ → List ℕ → List ℕ → Run → List ℕ → List ℕ → List ℕ → List ℕ → List ℕ → Result ℕ Refusal → Type 0
DidMarked run asked a0 a1 aw al am next b0 b1 bw bl bm (Ok k) = MarkedAsSteps run asked k a0 a1 aw al am next b0 b1 bw bl bm
DidMarked run asked a0 a1 aw al am next b0 b1 bw bl bm (Err e) = AsRefused run e next

-- So is every listing with keep marks.
abbrev pub MarkedBlocksAreSteps : Type 0
MarkedBlocksAreSteps = (run : Run) (asked : ℕ) (a0 a1 aw al am : List ℕ) (next : Run) (b0 b1 bw bl bm : List ℕ) (answer : Result ℕ Refusal)
    → ListMarkedPromise run asked a0 a1 aw al am next b0 b1 bw bl bm answer → DidMarked run asked a0 a1 aw al am next b0 b1 bw bl bm answer

-- ---- the plain walk

pub record WalkAgrees (n : ℕ) (steps : List Step) (a b : List ℕ) (m : ℕ) : Type 0 where
  -- it writes the words of the rows that the steps gave, one after another, and returns how many numbers that is
  pub words_written : b ≡ overwrite (column (λ r. r.word) (rows n steps)) a
  pub numbers : m ≡ length (column (λ r. r.word) (rows n steps))

-- The plain walk agrees with every history of a begun run of its size that gave all diagrams, as one that left a finished run has
-- (SecondList: finished_all).
abbrev pub WalkAgreesHolds : Type 0
WalkAgreesHolds = (n : ℕ) (run : Run) → BeginPromise n run (Ok tt) → (steps : List Step) (end : Run) → History run steps end → written steps ≡ count n
    → (a b : List ℕ) (m : ℕ) → PlainWalkPromise n a b (Ok m) → WalkAgrees n steps a b m
