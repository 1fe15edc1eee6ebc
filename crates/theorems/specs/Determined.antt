-- Answers are determined (document 01, "Worthless modules": every operation promises its full answer and the later content of each list, run
-- and book that it was lent). A promise that goes by the cases of the answer might allow two answers to one input. None does: from one input,
-- any two answers that the promise allows are the same, and so are the lists, runs and books that are left.
--
--   SameLists ..   the lists b and c are the same: s0, s1 and the word (or the words)
--   Determined     a field for each operation
-- Lists named a are as they were lent; lists named b are as they are handed back with the answer r, lists named c with the answer q.
-- The remaining operations need no field, because their promises are equations with a function of what they were given: precedes and lesser
-- (crate words, Order), and open, claim, commit, a range of commits, release and report of the share book (crate book, Calls).
use Rattle.std.specs.Prelude.{◌≡◌, ◌↔◌, Bool, true, List, ℕ, length, Option, Result}
use Rattle.refusals.specs.declared.Refusal.{Refusal}
use Rattle.diagrams.specs.declared.Made.{Made}
use Rattle.diagrams.specs.Check.{CheckPromise, AllOne}
use Rattle.diagrams.specs.Held.{CheckedDiagramPromise}
use Rattle.words.specs.Letters.{LettersPromise}
use Rattle.words_reading.specs.Read.{reading_answer, ReadPromise}
use Rattle.labelling_answers.specs.declared.SideRefusal.{SideRefusal}
use Rattle.labelling_operations.specs.Promises.{RelabelPromise, CharacteristicPromise, CompareRootedPromise, CompareUnrootedPromise, SymmetriesPromise, KeptPromise}
use Rattle.invariants.specs.declared.Numbers.{Numbers}
use Rattle.invariants.specs.Promises.{InvariantsPromise}
use Rattle.listing_ranking.specs.Promises.{CountPromise, DiagramAtPromise, PositionPromise}
use Rattle.listing_plain_walk.specs.Promises.{PlainWalkPromise}
use Rattle.run_kept_count.specs.Promises.{KeptCountPromise}
use Rattle.run_answers.specs.declared.Run.{Run}
use Rattle.run_steps.specs.Promises.{BeginPromise, BeginAtPromise, StepPromise}
use Rattle.run_blocks.specs.Promises.{ListPromise, ListMarkedPromise}
use Rattle.upto_answers.specs.declared.UptoRun.{UptoRun}
use Rattle.upto_answers.specs.declared.UptoGiven.{UptoGiven}
use Rattle.upto_answers.specs.Promises.{UptoBeginPromise, UptoStepPromise}
use Rattle.run_text.specs.declared.TextRows.{TextRows}
use Rattle.run_text.specs.Promises.{RowsPromise}
use Rattle.sheet.specs.Promises.{SheetPromise}
use Rattle.book.specs.declared.types.Book.{Book}
use Rattle.book.specs.declared.types.Taken.{Taken}
use Rattle.book.specs.Taken.{TakePromise}

pub record SameLists (b0 b1 bw c0 c1 cw : List ℕ) : Type 0 where
  pub s0_same : b0 ≡ c0
  pub s1_same : b1 ≡ c1
  pub word_same : bw ≡ cw

pub record Determined : Type 0 where
  -- check, and the diagram that Diagram::checked hands back
  pub check_once : (s0 s1 : List ℕ) (root : ℕ) (r q : Result (Unit {0}) Refusal) → CheckPromise s0 s1 root r → CheckPromise s0 s1 root q → r ≡ q
  pub checked_once : (s0 s1 : List ℕ) (root : ℕ) (r q : Made) → CheckedDiagramPromise s0 s1 root r → CheckedDiagramPromise s0 s1 root q → r ≡ q
  -- the all_reached test
  pub all_reached_once : (marks : List ℕ) (r q : Bool) → (r ≡ true) ↔ AllOne marks → (q ≡ true) ↔ AllOne marks → r ≡ q
  -- a word in its letters
  pub letters_once : (w a b c : List ℕ) (r q : Result ℕ Refusal) → LettersPromise w a r b → LettersPromise w a q c → (r ≡ q) × (b ≡ c)
  -- read word
  pub read_once : (w a0 a1 b0 b1 c0 c1 : List ℕ) (r q : Result ℕ Refusal) → ReadPromise (reading_answer w (length a0) (length a1)) r a0 a1 b0 b1 → ReadPromise (reading_answer w (length a0) (length a1)) q a0 a1 c0 c1
      → (r ≡ q) × (b0 ≡ c0) × (b1 ≡ c1)
  -- relabel
  pub relabel_once : (s0 s1 : List ℕ) (root : ℕ) (a0 a1 aw b0 b1 bw c0 c1 cw : List ℕ) (r q : Result ℕ Refusal) → RelabelPromise s0 s1 root a0 a1 aw b0 b1 bw r → RelabelPromise s0 s1 root a0 a1 aw c0 c1 cw q
      → (r ≡ q) × SameLists b0 b1 bw c0 c1 cw
  -- the characteristic labelling by value
  pub characteristic_once : (s0 s1 : List ℕ) (root : ℕ) (r q : Made) → CharacteristicPromise s0 s1 root r → CharacteristicPromise s0 s1 root q → r ≡ q
  -- compare, with roots and without
  pub compare_rooted_once : (s0 s1 : List ℕ) (x : ℕ) (t0 t1 : List ℕ) (y : ℕ) (r q : Result Bool SideRefusal) → CompareRootedPromise s0 s1 x t0 t1 y r → CompareRootedPromise s0 s1 x t0 t1 y q → r ≡ q
  pub compare_unrooted_once : (s0 s1 : List ℕ) (x : ℕ) (t0 t1 : List ℕ) (y : ℕ) (r q : Result Bool SideRefusal) → CompareUnrootedPromise s0 s1 x t0 t1 y r → CompareUnrootedPromise s0 s1 x t0 t1 y q → r ≡ q
  -- symmetries, kept, invariants
  pub symmetries_once : (s0 s1 : List ℕ) (root : ℕ) (r q : Result ℕ Refusal) → SymmetriesPromise s0 s1 root r → SymmetriesPromise s0 s1 root q → r ≡ q
  pub kept_once : (s0 s1 : List ℕ) (root : ℕ) (r q : Result Bool Refusal) → KeptPromise s0 s1 root r → KeptPromise s0 s1 root q → r ≡ q
  pub invariants_once : (s0 s1 : List ℕ) (root : ℕ) (r q : Result Numbers Refusal) → InvariantsPromise s0 s1 root r → InvariantsPromise s0 s1 root q → r ≡ q
  -- count, kept count, diagram at a position, position of a diagram
  pub count_once : (n : ℕ) (r q : Result ℕ Refusal) → CountPromise n r → CountPromise n q → r ≡ q
  pub kept_count_once : (n : ℕ) (r q : Result ℕ Refusal) → KeptCountPromise n r → KeptCountPromise n q → r ≡ q
  pub diagram_at_once : (n p : ℕ) (a0 a1 aw b0 b1 bw c0 c1 cw : List ℕ) (r q : Result ℕ Refusal) → DiagramAtPromise n p a0 a1 aw b0 b1 bw r → DiagramAtPromise n p a0 a1 aw c0 c1 cw q
      → (r ≡ q) × SameLists b0 b1 bw c0 c1 cw
  pub position_once : (s0 s1 : List ℕ) (root : ℕ) (r q : Result ℕ Refusal) → PositionPromise s0 s1 root r → PositionPromise s0 s1 root q → r ≡ q
  -- a sheet of words
  pub sheet_once : (s a b c d e f : List ℕ) (r q : Result (Unit {0}) Refusal) → SheetPromise s a b c d r → SheetPromise s a b e f q → (r ≡ q) × (c ≡ e) × (d ≡ f)
  -- the plain walk
  pub plain_walk_once : (n : ℕ) (a b c : List ℕ) (r q : Result ℕ Refusal) → PlainWalkPromise n a b r → PlainWalkPromise n a c q → (r ≡ q) × (b ≡ c)
  -- a run's beginning, first and at a position, and its step; `next` and `other` are the run that is left
  pub begin_once : (n : ℕ) (next other : Run) (r q : Result (Unit {0}) Refusal) → BeginPromise n next r → BeginPromise n other q → (r ≡ q) × (next ≡ other)
  pub begin_at_once : (n p : ℕ) (next other : Run) (r q : Result (Unit {0}) Refusal) → BeginAtPromise n p next r → BeginAtPromise n p other q → (r ≡ q) × (next ≡ other)
  pub step_once : (run next other : Run) (a0 a1 aw b0 b1 bw c0 c1 cw : List ℕ) (r q : Result (Option ℕ) Refusal) → StepPromise run next a0 a1 aw b0 b1 bw r → StepPromise run other a0 a1 aw c0 c1 cw q
      → (r ≡ q) × (next ≡ other) × SameLists b0 b1 bw c0 c1 cw
  -- the beginning and the step of a run through all sizes up to a bound
  pub upto_begin_once : (n : ℕ) (next other : UptoRun) (r q : Result (Unit {0}) Refusal) → UptoBeginPromise n next r → UptoBeginPromise n other q → (r ≡ q) × (next ≡ other)
  pub upto_step_once : (run next other : UptoRun) (a0 a1 aw b0 b1 bw c0 c1 cw : List ℕ) (r q : Result (Option UptoGiven) Refusal) → UptoStepPromise run next a0 a1 aw b0 b1 bw r → UptoStepPromise run other a0 a1 aw c0 c1 cw q
      → (r ≡ q) × (next ≡ other) × SameLists b0 b1 bw c0 c1 cw
  -- the text of the next rows
  pub rows_once : (run : Run) (asked : ℕ) (a : List ℕ) (next other : Run) (b c : List ℕ) (r q : Result TextRows Refusal)
      → RowsPromise run asked a next b r → RowsPromise run asked a other c q → (r ≡ q) × (next ≡ other) × (b ≡ c)
  -- a listing in blocks, without keep marks and with them
  pub list_once : (run : Run) (rows : ℕ) (a0 a1 aw al : List ℕ) (next other : Run) (b0 b1 bw bl c0 c1 cw cl : List ℕ) (r q : Result ℕ Refusal)
      → ListPromise run rows a0 a1 aw al next b0 b1 bw bl r → ListPromise run rows a0 a1 aw al other c0 c1 cw cl q
      → (r ≡ q) × (next ≡ other) × SameLists b0 b1 bw c0 c1 cw × (bl ≡ cl)
  pub list_marked_once : (run : Run) (rows : ℕ) (a0 a1 aw al am : List ℕ) (next other : Run) (b0 b1 bw bl bm c0 c1 cw cl cm : List ℕ) (r q : Result ℕ Refusal)
      → ListMarkedPromise run rows a0 a1 aw al am next b0 b1 bw bl bm r → ListMarkedPromise run rows a0 a1 aw al am other c0 c1 cw cl cm q
      → (r ≡ q) × (next ≡ other) × SameLists b0 b1 bw c0 c1 cw × (bl ≡ cl) × (bm ≡ cm)
  -- the share book's take; `b` and `c` are the book that is left
  pub take_once : (book : Book) (tick t : ℕ) (a0 a1 aw : List ℕ) (r q : Result Taken Refusal) (b c : Book) (b0 b1 bw c0 c1 cw : List ℕ)
      → TakePromise book tick t a0 a1 aw r b b0 b1 bw → TakePromise book tick t a0 a1 aw q c c0 c1 cw
      → (r ≡ q) × (b ≡ c) × SameLists b0 b1 bw c0 c1 cw
