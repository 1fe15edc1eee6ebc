-- The steps of a run through all sizes up to a bound (request U1), as the second list of demand 3 has those of the plain run: every list of steps,
-- accepted or refused, with any output lists, from a newly begun run; each step is given the run that the preceding one left.
-- What a step does is what the operation's own contract says of it (crate upto_answers, Promises: UptoStepPromise).
--
--   UptoStep                     a step as it happened: its lists as they were lent and as they were handed back, and its answer
--   UptoHappened run next s      the step s of `run` leaves the run `next`, as the operation promises
--   UptoHistory run steps end    the steps happened one after another from `run` on and left the run `end`
--   upto_written steps            how many of the steps wrote a diagram;  upto_writes answer, 1 where it wrote one, otherwise 0
--   UptoRow                      a diagram with its word, its size and its visits
--   upto_row n p                  the row at place p of the single list: the diagram that its word spells, the word, the size and the visits there
--   upto_handed s answer          the row that the step s gave, if it wrote one, read off the lists that it handed back and its answer
--   upto_rows steps               the rows that the steps gave, in order;  upto_row_words rs, the words of rows
--   upto_row_at rs p               the p-th of the rows rs, from 1; that of no word where there is none
--   UptoDoes n p end next s ..   what the step s does after p diagrams have been given, by its answer
--   UptoAccepted answer          it is not a refusal
--   UptoList n steps end         the theorem
-- and from elsewhere: UptoBeginPromise, finished_upto n (upto_answers, Promises); upto, total, word_upto, size_of, of_size, visits (upto).
use Rattle.std.specs.Prelude.{◌≡◌, ◌↔◌, List, [], ◌∷◌, ◌++◌, map, ℕ, zero, suc, ◌+◌, ◌*◌, ◌≤◌, ◌<◌, length, take, get_or, Option, Some, None, Result, Ok, Err}
use Rattle.lists.specs.Ranges.{OneTo, stretch}
use Rattle.diagrams.specs.Isomorphism.{RootedIsomorphic}
use Rattle.diagrams.specs.Check.{Accepts}
use Rattle.words.specs.Word.{Pair}
use Rattle.words.specs.Outputs.{Written, Untouched}
use Rattle.listing.specs.Listing.{listing, Sorted}
use Rattle.listing.specs.Diagrams.{diagram_of}
use Rattle.refusals.specs.declared.Refusal.{Refusal}
use Rattle.upto.specs.Upto.{upto, total, word_upto, size_of, of_size}
use Rattle.upto.specs.Visits.{visits}
use Rattle.upto_answers.specs.declared.UptoRun.{UptoRun}
use Rattle.upto_answers.specs.declared.UptoGiven.{UptoGiven}
use Rattle.upto_answers.specs.Promises.{finished_upto, UptoBeginPromise, UptoStepPromise}
use Rattle.theorems.specs.Listing.{ExactlyOne}

pub record UptoStep : Type 0 where
  pub s0 : List ℕ
  pub s1 : List ℕ
  pub word : List ℕ
  pub s0_after : List ℕ
  pub s1_after : List ℕ
  pub word_after : List ℕ
  pub answer : Result (Option UptoGiven) Refusal

abbrev pub UptoHappened : UptoRun → UptoRun → UptoStep → Type 0
UptoHappened run next s = UptoStepPromise run next s.s0 s.s1 s.word s.s0_after s.s1_after s.word_after s.answer

abbrev pub UptoHistory : UptoRun → List UptoStep → UptoRun → Type 0
UptoHistory run [] end = end ≡ run
UptoHistory run (s ∷ steps) end = (next : UptoRun) × UptoHappened run next s × UptoHistory next steps end

abbrev pub upto_writes : Result (Option UptoGiven) Refusal → ℕ
upto_writes (Ok (Some g)) = 1
upto_writes (Ok None) = 0
upto_writes (Err e) = 0

abbrev pub upto_written : List UptoStep → ℕ
upto_written [] = 0
upto_written (s ∷ steps) = upto_writes s.answer + upto_written steps

-- ---- the rows given

pub record UptoRow : Type 0 where
  pub diagram : Pair
  pub word : List ℕ
  pub size : ℕ
  pub visits : ℕ

abbrev pub row_of_word : List ℕ → ℕ → UptoRow
row_of_word w v = record { diagram = diagram_of w; word = w; size = size_of w; visits = v }

abbrev pub upto_row : ℕ → ℕ → UptoRow
upto_row n p = row_of_word (word_upto n p) (visits n p)

-- as many entries of the black and the white list as the size it answered, and a word as long as it answered
abbrev pub upto_handed : UptoStep → Result (Option UptoGiven) Refusal → List UptoRow
upto_handed s (Ok (Some g)) = record { diagram = record { black = take g.size s.s0_after; white = take g.size s.s1_after }; word = take g.length s.word_after; size = g.size; visits = g.visits } ∷ []
upto_handed s (Ok None) = []
upto_handed s (Err e) = []

abbrev pub upto_rows : List UptoStep → List UptoRow
upto_rows [] = []
upto_rows (s ∷ steps) = upto_handed s s.answer ++ upto_rows steps

abbrev pub upto_row_words : List UptoRow → List (List ℕ)
upto_row_words rs = map (λ (r : UptoRow). r.word) rs

abbrev pub upto_row_at : List UptoRow → ℕ → UptoRow
upto_row_at rs zero = row_of_word [] 0
upto_row_at rs (suc i) = get_or rs i (row_of_word [] 0)

abbrev pub IsUptoRow : List ℕ → List ℕ → ℕ → UptoRow → Type 0
IsUptoRow s0 s1 root r = RootedIsomorphic s0 s1 root r.diagram.black r.diagram.white 1

-- ---- the step that comes next

-- What a step s does after p diagrams have been given, by its answer; `end` is the run before it, `next` the run after it.
abbrev pub UptoDoes : ℕ → ℕ → UptoRun → UptoRun → UptoStep → Result (Option UptoGiven) Refusal → Type 0
-- it writes the diagram at the next place, p + 1, and answers its size, its word's length and its visits
UptoDoes n p end next s (Ok (Some g)) =
    (p < total n) × (g.size ≡ size_of (word_upto n (suc p))) × (g.length ≡ length (word_upto n (suc p))) × (g.visits ≡ visits n (suc p))
    × Written (diagram_of (word_upto n (suc p))) (word_upto n (suc p)) s.s0 s.s1 s.word s.s0_after s.s1_after s.word_after
-- all have been given before it
UptoDoes n p end next s (Ok None) = (p ≡ total n) × (next ≡ finished_upto n) × Untouched s.s0 s.s1 s.word s.s0_after s.s1_after s.word_after
-- a refused step alters nothing
UptoDoes n p end next s (Err e) = (next ≡ end) × Untouched s.s0 s.s1 s.word s.s0_after s.s1_after s.word_after

-- the answer is not a refusal
abbrev pub UptoAccepted : Result (Option UptoGiven) Refusal → Type 0
UptoAccepted (Ok (Some g)) = Unit {0}
UptoAccepted (Ok None) = Unit {0}
UptoAccepted (Err e) = ⊥

-- The theorem, for the steps of a history from a begun run of bound n that left the run `end`.
pub record UptoList (n : ℕ) (steps : List UptoStep) (end : UptoRun) : Type 0 where
  -- the rows given, in order, one for each step that wrote one, are those of the places 1, 2, 3, .. without a gap, each with its word, its size and its visits
  pub given : upto_rows steps ≡ map (upto_row n) (stretch 1 (upto_written steps))
  pub no_more : upto_written steps ≤ total n
  -- the words given are the first of the single list
  pub words : upto_row_words (upto_rows steps) ≡ take (upto_written steps) (upto n)
  -- those of one size are the first of that size's listing, in the order in which the plain run gives them
  pub by_size : (m : ℕ) → OneTo n m → (k : ℕ) × (of_size m (upto_row_words (upto_rows steps)) ≡ take k (listing m))
  -- the words given are in dictionary order, so none is given twice
  pub in_order : Sorted (upto_row_words (upto_rows steps))
  -- and no two of the diagrams given are isomorphic with roots
  pub never_twice : (p q : ℕ) → OneTo (upto_written steps) p → OneTo (upto_written steps) q
      → IsUptoRow (upto_row_at (upto_rows steps) p).diagram.black (upto_row_at (upto_rows steps) p).diagram.white 1 (upto_row_at (upto_rows steps) q) → p ≡ q
  -- a finished run has given as many as there are
  pub finished_all : end ≡ finished_upto n → upto_written steps ≡ total n
  -- as many as there are: the whole single list, and of each size the whole listing,
  pub whole : upto_written steps ≡ total n → (upto_row_words (upto_rows steps) ≡ upto n) × ((m : ℕ) → OneTo n m → of_size m (upto_row_words (upto_rows steps)) ≡ listing m)
  -- every rooted diagram of a size 1..n is isomorphic, with roots, to exactly one of them,
  pub each_once : upto_written steps ≡ total n → (s0 s1 : List ℕ) (root : ℕ) → Accepts s0 s1 root → length s0 ≤ n
      → ExactlyOne (upto_written steps) (λ p. IsUptoRow s0 s1 root (upto_row_at (upto_rows steps) p))
  -- and the visits given with the last are at most 2 · diagrams - 1
  pub few_visits : upto_written steps ≡ total n → (upto_row_at (upto_rows steps) (upto_written steps)).visits + 1 ≤ 2 * upto_written steps
  -- the step that follows gives the diagram at the next place, or answers "end", or is refused and alters nothing
  pub next_step : (next : UptoRun) (s : UptoStep) → UptoHappened end next s → UptoDoes n (upto_written steps) end next s s.answer
  -- a step that is not refused answers "end" exactly when all have been given before it
  pub end_exactly : (next : UptoRun) (s : UptoStep) → UptoHappened end next s → UptoAccepted s.answer → (s.answer ≡ Ok None) ↔ (upto_written steps ≡ total n)

-- For every bound, every run that an accepted beginning left, and every list of steps from it.
abbrev pub UptoListHolds : Type 0
UptoListHolds = (n : ℕ) (run : UptoRun) → UptoBeginPromise n run (Ok tt) → (steps : List UptoStep) (end : UptoRun) → UptoHistory run steps end → UptoList n steps end
