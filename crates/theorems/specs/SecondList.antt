-- Demand 3, the second list (document 01, "The lists of demand 3"): every list of steps of a run, accepted or refused, with any output
-- lists, from a newly begun run; each step is given the run that the preceding one left.
-- What a step does is what the operation's own contract says of it (crate run_steps, Promises: StepPromise).
--
--   Step                         a step as it happened: its lists as they were lent and as they were handed back, and its answer
--   Happened run next s          the step s of `run` leaves the run `next`, as the operation promises
--   History run steps end        the steps happened one after another from `run` on and left the run `end`
--   writes answer                1 where the step wrote a diagram, otherwise 0;  written steps, how many of the steps wrote one
--   Row                          a diagram and a word
--   row_of w                      the row of the word w: the diagram that it spells, and w
--   handed n s answer            the row that the step s of a run of size n gave, if it wrote one, read off the lists that it handed back
--   rows n steps                 the rows that the steps gave, in order
--   row_at rs p                   the p-th of the rows rs, from 1; that of no word where there is none
--   IsRow s0 s1 root r           the diagram of r is isomorphic, with roots, to the given one
--   StepDoes n p end next s ..   what the step s does after p diagrams have been given, by its answer
--   Accepted answer              it is not a refusal
--   SecondList n steps end       the theorem
--   BegunAtHolds                 a run that begins at a position is one that steps could have left
-- and from elsewhere: BeginPromise, BeginAtPromise, finished n (run_steps, Promises); listing, count, Sorted, diagram_at, word_at (listing); Written, Untouched (words,
-- Outputs); InPlace n p, the diagram at p is one of size n in its characteristic labelling with the p-th word (FirstList).
use Rattle.std.specs.Prelude.{◌≡◌, ◌↔◌, List, [], ◌∷◌, ◌++◌, map, ℕ, zero, suc, ◌+◌, ◌≤◌, ◌<◌, length, take, get_or, Option, Some, None, Result, Ok, Err}
use Rattle.lists.specs.Ranges.{OneTo}
use Rattle.diagrams.specs.Isomorphism.{RootedIsomorphic}
use Rattle.diagrams.specs.Check.{Accepts}
use Rattle.words.specs.Word.{Pair}
use Rattle.words.specs.Outputs.{Written, Untouched}
use Rattle.listing.specs.Listing.{listing, count, Sorted}
use Rattle.listing.specs.Position.{word_at}
use Rattle.listing.specs.Diagrams.{diagram_of, diagram_at}
use Rattle.run_answers.specs.declared.Run.{Run}
use Rattle.refusals.specs.declared.Refusal.{Refusal}
use Rattle.run_steps.specs.Promises.{finished, BeginPromise, BeginAtPromise, StepPromise}
use Rattle.theorems.specs.FirstList.{InPlace}

pub record Step : Type 0 where
  pub s0 : List ℕ
  pub s1 : List ℕ
  pub word : List ℕ
  pub s0_after : List ℕ
  pub s1_after : List ℕ
  pub word_after : List ℕ
  pub answer : Result (Option ℕ) Refusal

abbrev pub Happened : Run → Run → Step → Type 0
Happened run next s = StepPromise run next s.s0 s.s1 s.word s.s0_after s.s1_after s.word_after s.answer

abbrev pub History : Run → List Step → Run → Type 0
History run [] end = end ≡ run
History run (s ∷ steps) end = (next : Run) × Happened run next s × History next steps end

abbrev pub writes : Result (Option ℕ) Refusal → ℕ
writes (Ok (Some m)) = 1
writes (Ok None) = 0
writes (Err e) = 0

abbrev pub written : List Step → ℕ
written [] = 0
written (s ∷ steps) = writes s.answer + written steps

-- ---- the rows given

pub record Row : Type 0 where
  pub diagram : Pair
  pub word : List ℕ

abbrev pub row_of : List ℕ → Row
row_of w = record { diagram = diagram_of w; word = w }

-- n entries of the black list, n of the white list, and a word as long as it answered
abbrev pub handed : ℕ → Step → Result (Option ℕ) Refusal → List Row
handed n s (Ok (Some m)) = record { diagram = record { black = take n s.s0_after; white = take n s.s1_after }; word = take m s.word_after } ∷ []
handed n s (Ok None) = []
handed n s (Err e) = []

abbrev pub rows : ℕ → List Step → List Row
rows n [] = []
rows n (s ∷ steps) = handed n s s.answer ++ rows n steps

abbrev pub row_at : List Row → ℕ → Row
row_at rs zero = row_of []
row_at rs (suc i) = get_or rs i (row_of [])

abbrev pub IsRow : List ℕ → List ℕ → ℕ → Row → Type 0
IsRow s0 s1 root r = RootedIsomorphic s0 s1 root r.diagram.black r.diagram.white 1

-- ---- the step that comes next

-- What a step s does after p diagrams have been given, by its answer; `end` is the run before it, `next` the run after it.
abbrev pub StepDoes : ℕ → ℕ → Run → Run → Step → Result (Option ℕ) Refusal → Type 0
-- it writes the diagram at the next position, p + 1, with its word
StepDoes n p end next s (Ok (Some m)) =
    (p < count n) × InPlace n (suc p) × (m ≡ length (word_at n (suc p)))
    × Written (diagram_at n (suc p)) (word_at n (suc p)) s.s0 s.s1 s.word s.s0_after s.s1_after s.word_after
-- all have been given before it
StepDoes n p end next s (Ok None) = (p ≡ count n) × (next ≡ finished n) × Untouched s.s0 s.s1 s.word s.s0_after s.s1_after s.word_after
-- a refused step alters nothing
StepDoes n p end next s (Err e) = (next ≡ end) × Untouched s.s0 s.s1 s.word s.s0_after s.s1_after s.word_after

-- the answer is not a refusal
abbrev pub Accepted : Result (Option ℕ) Refusal → Type 0
Accepted (Ok (Some m)) = Unit {0}
Accepted (Ok None) = Unit {0}
Accepted (Err e) = ⊥

-- The theorem, for the steps of a history from a begun run of size n that left the run `end`.
pub record SecondList (n : ℕ) (steps : List Step) (end : Run) : Type 0 where
  -- the diagrams and words given, in order, one for each step that wrote one, are the first of the listing
  pub given : rows n steps ≡ map row_of (take (written steps) (listing n))
  pub no_more : written steps ≤ count n
  -- the words given are in word order, so none is given twice
  pub in_order : Sorted (map (λ (r : Row). r.word) (rows n steps))
  -- and no two of the diagrams given are isomorphic with roots
  pub never_twice : (p q : ℕ) → OneTo (written steps) p → OneTo (written steps) q
      → IsRow (row_at (rows n steps) p).diagram.black (row_at (rows n steps) p).diagram.white 1 (row_at (rows n steps) q) → p ≡ q
  -- the p-th is the diagram at position p, of size n and in its characteristic labelling, with its word: the one that takes and commits of
  -- position p speak of
  pub in_place : (p : ℕ) → OneTo (written steps) p → InPlace n p × (row_at (rows n steps) p ≡ record { diagram = diagram_at n p; word = word_at n p })
  -- a finished run has given as many as there are
  pub finished_all : end ≡ finished n → written steps ≡ count n
  -- as many as there are: the whole listing,
  pub whole : written steps ≡ count n → rows n steps ≡ map row_of (listing n)
  -- and every rooted diagram of the size is isomorphic, with roots, to exactly one of them
  pub each_once : written steps ≡ count n → (s0 s1 : List ℕ) (root : ℕ) → Accepts s0 s1 root → length s0 ≡ n
      → (p : ℕ) × OneTo (written steps) p × IsRow s0 s1 root (row_at (rows n steps) p)
      × ((q : ℕ) → OneTo (written steps) q → IsRow s0 s1 root (row_at (rows n steps) q) → q ≡ p)
  -- the step that follows gives the diagram at the next position, or answers "end", or is refused and alters nothing
  pub next_step : (next : Run) (s : Step) → Happened end next s → StepDoes n (written steps) end next s s.answer
  -- a step that is not refused answers "end" exactly when all have been given before it
  pub end_exactly : (next : Run) (s : Step) → Happened end next s → Accepted s.answer → (s.answer ≡ Ok None) ↔ (written steps ≡ count n)

-- The second list of demand 3: for every size, every run that an accepted beginning left, and every list of steps from it.
abbrev pub SecondListHolds : Type 0
SecondListHolds = (n : ℕ) (run : Run) → BeginPromise n run (Ok tt) → (steps : List Step) (end : Run) → History run steps end → SecondList n steps end

-- A run that begins at a position is one that steps could have left, so that the second list goes on from there: p diagrams have been given.
abbrev pub BegunAtHolds : Type 0
BegunAtHolds = (n p : ℕ) (run start : Run) → BeginAtPromise n p run (Ok tt) → BeginPromise n start (Ok tt)
    → (steps : List Step) × History start steps run × (written steps ≡ p)
