-- A listing in blocks is a history of steps, and the plain walk writes the words of the rows that a run gave.
use mathlib.Core.Path.{◌≡◌, refl, sym, ap, ◌∙◌}
use mathlib.Core.Logic.{◌⊎◌, inl, inr}
use mathlib.Core.List.{List, [], ◌∷◌, ◌++◌, map, map-append, append_assoc, append-nil}
use Prim.Native.Nat.{ℕ, zero, suc, ◌+◌, ◌≤◌, ◌<◌}
use native.Mathlib.Omega.{arith}
use lib.ListN.{length, take, drop, get_or, length-drop}
use lib.Seq.{take-suc, drop-cons, get_or-drop}
use Rattle.std.specs.Prelude.{Option, Result, Ok, Err}
use Rattle.lists.specs.Lists.{at}
use Rattle.lists.specs.Ranges.{OneTo}
use Rattle.lists.proofs.Tests.{lt?}
use Rattle.words.specs.Outputs.{overwrite}
use Rattle.listing.specs.Listing.{listing, count}
use Rattle.listing.specs.Position.{word_at}
use Rattle.listing.specs.Diagrams.{diagram_at}
use Rattle.listing_plain_walk.specs.Promises.{concatenated}
use Rattle.run_answers.specs.declared.Run.{Run}
use Rattle.refusals.specs.declared.Refusal.{Refusal}
use Rattle.refusals.specs.Numbers.{number}
use Rattle.run_steps.specs.Promises.{run_after, RunAt, RunFinished, RefusedStep}
use Rattle.run_steps.proofs.Standing.{stands-size}
use Rattle.run_blocks.specs.Rows.{blacks, whites, flat_words, lengths, MarkOf}
use Rattle.run_blocks.specs.Promises.{RunAfterRows, NoRows, RowsGiven, RefusedList, MarkedRowsGiven}
use Rattle.theorems.specs.SecondList.{Step, History, written, Row, row_of, rows, row_at}
use Rattle.theorems.specs.Blocks.{column, lengths_of, gave_length, BlockAnswers, AsSteps, AsRefused, BlocksAreSteps, MarkedAsSteps, MarkedBlocksAreSteps, WalkAgreesHolds}
use Rattle.theorems.proofs.Steps.{end_step, steps_from, end-happens, from-happened, from-written}
use Rattle.theorems.proofs.SecondList.{rows_all, row-at, words-rows, second-list-holds}

-- ---- rows one after another

flat_append : (us vs : List (List ℕ)) → concatenated (us ++ vs) ≡ concatenated us ++ concatenated vs
flat_append [] vs = refl
flat_append (u ∷ us) vs = ap (λ (l : List ℕ). u ++ l) (flat_append us vs) ∙ sym (append_assoc u (concatenated us) (concatenated vs))

-- the lengths one after another are a list of them
flat-lengths : (rs : List Row) → column (λ r. length r.word ∷ []) rs ≡ lengths_of rs
flat-lengths [] = refl
flat-lengths (r ∷ rs) = ap (λ (l : List ℕ). length r.word ∷ l) (flat-lengths rs)

-- what grows by one row of the listing after another from position p on is the column of these rows
module _ (n p : ℕ) (f : Row → List ℕ) (B : ℕ → List ℕ) (none : B zero ≡ []) (more : (k : ℕ) → B (suc k) ≡ B k ++ f (row_of (word_at n (suc (p + k))))) where
  column-is : (k : ℕ) → p + k ≤ count n → B k ≡ column f (map row_of (take k (drop p (listing n))))
  unfolding word_at count
  column-is zero l = none
  column-is (suc k) l =
      let i : k < length (drop p (listing n)) = rw length-drop (omega arith) in
      more k ∙ rw (
        column-is k (omega arith),
        take-suc (drop p (listing n)) k [] i,
        get_or-drop p (listing n) k [],
        map-append row_of (take k (drop p (listing n))) (get_or (listing n) (p + k) [] ∷ []),
        map-append f (map row_of (take k (drop p (listing n)))) (row_of (get_or (listing n) (p + k) []) ∷ []),
        flat_append (map f (map row_of (take k (drop p (listing n))))) (f (row_of (get_or (listing n) (p + k) [])) ∷ []),
        append-nil,
      )

-- ---- the answers of the steps

abbrev answers_of : List Step → List (Result (Option ℕ) Refusal)
answers_of steps = map (λ (s : Step). s.answer) steps

from-answers : (n : ℕ) (more : List Step) (k p : ℕ) → p + k ≤ count n → answers_of (steps_from n p k more) ≡ map gave_length (lengths_of (map row_of (take k (drop p (listing n))))) ++ answers_of more
unfolding word_at count
from-answers n more zero p l = refl
from-answers n more (suc k) p l = rw (drop-cons (listing n) p [] (omega arith), from-answers n more k (suc p) (omega arith))

-- ---- a listing in blocks

-- the rows that any k steps gave of a run that has given p diagrams
rows_of : (n : ℕ) → OneTo 50 n → (p : ℕ) (run : Run) → run.size ≡ n → RunAt n p run ⊎ ((p ≡ count n) × RunFinished n run) → (k : ℕ) (steps : List Step) (end : Run)
    → History run steps end → written steps ≡ k → rows run.size steps ≡ map row_of (take k (drop p (listing n)))
rows_of n N p run z S k steps end h e = ap (λ (m : ℕ). rows m steps) z ∙ rows_all n N steps run end p S h ∙ ap (λ (j : ℕ). map row_of (take j (drop p (listing n)))) e

module _ (run : Run) (asked k : ℕ) (a0 a1 aw al : List ℕ) (next : Run) (b0 b1 bw bl : List ℕ) where
  -- a run that is finished: one step that answers "end" where a row was asked for
  over-steps : NoRows run k next a0 a1 aw al b0 b1 bw bl → AsSteps run asked k a0 a1 aw al next b0 b1 bw bl
  over-steps ((n, O), z, x, s) = go (lt? 0 asked)
    where
      no_steps : (steps : List Step) → rows run.size steps ≡ [] → History run steps next → written steps ≡ 0 → BlockAnswers run.size k asked steps → AsSteps run asked k a0 a1 aw al next b0 b1 bw bl
      no_steps steps r h w a = record {
        steps = steps;
        history = h;
        gave = w ∙ sym z;
        answers = a;
        s0_written = rw r s.s0_same;
        s1_written = rw r s.s1_same;
        words_written = rw r s.words_same;
        lengths_written = rw r s.lengths_same;
        only = λ others end g e. rows_of n O.sized (count n) run (ap (λ (r : Run). r.size) O.is) (inr (refl, O)) 0 others end g (e ∙ z) ∙ sym r;
      }

      go : (0 < asked) ⊎ (asked ≤ 0) → AsSteps run asked k a0 a1 aw al next b0 b1 bw bl
      go (inl l) = no_steps (end_step n ∷ []) refl (next, end-happens n run next (x ∙ O.is) (inl O), refl) refl (inr (omega arith, refl))
      go (inr l) = no_steps [] refl x refl (inl (omega arith, refl))

  module _ (G : RowsGiven run asked k next a0 a1 aw al b0 b1 bw bl) where
    abbrev n : ℕ
    n = G.size

    abbrev p : ℕ
    p = G.place

    N : OneTo 50 n
    N = G.stands.sized

    rows_are : (steps : List Step) (end : Run) → History run steps end → written steps ≡ k → rows run.size steps ≡ map row_of (take k (drop p (listing n)))
    rows_are = rows_of n N p run (stands-size n p run G.stands) (inl G.stands) k

    module _ (more : List Step) (l : p + k ≤ count n) (h : History (run_after n (p + k)) more next) (e : written more ≡ 0) where
      abbrev steps : List Step
      steps = steps_from n p k more

      history : History run steps next
      history = from-happened n more N k p run next G.stands l h

      gave : written steps ≡ k
      gave = let w = from-written n more k p in omega arith

      R : rows run.size steps ≡ map row_of (take k (drop p (listing n)))
      R = rows_are steps next history gave

      answers : answers_of steps ≡ map gave_length (lengths_of (rows run.size steps)) ++ answers_of more
      answers = rw R (from-answers n more k p l)

      -- a list written over by a column of the rows
      filled : (f : Row → List ℕ) (B : ℕ → List ℕ) → B zero ≡ [] → ((i : ℕ) → B (suc i) ≡ B i ++ f (row_of (word_at n (suc (p + i))))) → (a b : List ℕ) → b ≡ overwrite (B k) a
          → b ≡ overwrite (column f (rows run.size steps)) a
      filled f B z m a b w = w ∙ ap (λ (x : List ℕ). overwrite x a) (column-is n p f B z m k l ∙ ap (column f) (sym R))

      as_steps : BlockAnswers run.size k asked steps → AsSteps run asked k a0 a1 aw al next b0 b1 bw bl
      unfolding blacks whites flat_words lengths diagram_at
      as_steps a = record {
        steps = steps;
        history = history;
        gave = gave;
        answers = a;
        s0_written = filled (λ r. r.diagram.black) (blacks n p) refl (λ i. refl) a0 b0 G.written.s0_written;
        s1_written = filled (λ r. r.diagram.white) (whites n p) refl (λ i. refl) a1 b1 G.written.s1_written;
        words_written = filled (λ r. r.word) (flat_words n p) refl (λ i. refl) aw bw G.written.words_written;
        lengths_written = filled (λ r. length r.word ∷ []) (lengths n p) refl (λ i. refl) al bl G.written.lengths_written ∙ ap (λ (x : List ℕ). overwrite x al) (flat-lengths (rows run.size steps));
        only = λ others end g c. rows_are others end g c ∙ sym R;
      }

    gave-steps : RunAfterRows n p asked k next → AsSteps run asked k a0 a1 aw al next b0 b1 bw bl
    gave-steps (inl (e, l, x)) = as_steps [] l x refl (inl (e, answers [] l x refl ∙ append-nil _))
    gave-steps (inr (e, c, x)) =
        let l : p + k ≤ count n = omega arith in
        let h : History (run_after n (p + k)) (end_step n ∷ []) next = (next, end-happens n (run_after n (p + k)) next x (inr record { sized = N; within = omega arith; is = ap (run_after n) c }), refl) in
        as_steps (end_step n ∷ []) l h refl (inr (e, answers (end_step n ∷ []) l h refl))

    -- a mark of a row
    row-marked : (A : AsSteps run asked k a0 a1 aw al next b0 b1 bw bl) (i m : ℕ) → i < k → MarkOf (diagram_at n (suc (p + i))) m → MarkOf (row_at (rows run.size A.steps) (suc i)).diagram m
    unfolding word_at diagram_at
    row-marked A i m l M = rw (rows_are A.steps next A.history A.gave, row-at (drop p (listing n)) k i l, get_or-drop p (listing n) i []) M

  module _ (am bm : List ℕ) where
    over-marked : NoRows run k next a0 a1 aw al b0 b1 bw bl → bm ≡ am → MarkedAsSteps run asked k a0 a1 aw al am next b0 b1 bw bl bm
    over-marked o e = record {
      as_steps = over-steps o;
      marks = [];
      long = sym o.1;
      each = λ p f. (let z = o.1 in absurd (omega arith));
      marks_written = e;
    }

    gave-marked : MarkedRowsGiven run asked k next a0 a1 aw al am b0 b1 bw bl bm → MarkedAsSteps run asked k a0 a1 aw al am next b0 b1 bw bl bm
    gave-marked M = record {
      as_steps = A;
      marks = M.marked.marks;
      long = M.marked.are.long;
      each = each;
      marks_written = M.marked.written;
    }
      where
        A : AsSteps run asked k a0 a1 aw al next b0 b1 bw bl
        A = gave-steps M.gave M.gave.leaves

        each : (p : ℕ) → OneTo k p → MarkOf (row_at (rows run.size A.steps) p).diagram (at M.marked.marks p)
        each zero e = absurd (omega arith)
        each (suc i) e = row-marked M.gave A i _ e.1 (M.marked.are.each i e.1)

-- a refused listing: a step that is lent empty lists is refused for the same reason
refused-step : (run : Run) (Few : ℕ → Type 0) (e : Refusal) (next : Run) → RefusedList run Few (number e) → next ≡ run → AsRefused run e next
refused-step run Few e next r x = record {
  step = record { s0 = []; s1 = []; word = []; s0_after = []; s1_after = []; word_after = []; answer = Err e };
  happened = (short r, x, record { s0_same = refl; s1_same = refl; word_same = refl });
  refused = refl;
}
  where
    short : RefusedList run Few (number e) → RefusedStep run [] [] [] (number e)
    short (inl o) = inl o
    short (inr (q, (n, p, T, f))) = inr (q, (n, p, T, inl (let N = T.sized in omega arith)))

pub blocks-are-steps : BlocksAreSteps
blocks-are-steps run asked a0 a1 aw al next b0 b1 bw bl (Ok k) (inl o) = over-steps run asked k a0 a1 aw al next b0 b1 bw bl o
blocks-are-steps run asked a0 a1 aw al next b0 b1 bw bl (Ok k) (inr G) = gave-steps run asked k a0 a1 aw al next b0 b1 bw bl G G.leaves
blocks-are-steps run asked a0 a1 aw al next b0 b1 bw bl (Err e) (r, x, s) = refused-step run _ e next r x

pub marked-blocks-are-steps : MarkedBlocksAreSteps
marked-blocks-are-steps run asked a0 a1 aw al am next b0 b1 bw bl bm (Ok k) (inl o) = over-marked run asked k a0 a1 aw al next b0 b1 bw bl am bm o.0 o.1
marked-blocks-are-steps run asked a0 a1 aw al am next b0 b1 bw bl bm (Ok k) (inr M) = gave-marked run asked k a0 a1 aw al next b0 b1 bw bl am bm M
marked-blocks-are-steps run asked a0 a1 aw al am next b0 b1 bw bl bm (Err e) (r, x, s, m) = refused-step run _ e next r x

-- ---- the plain walk

pub walk-agrees-holds : WalkAgreesHolds
walk-agrees-holds n run B steps end h all a b m (N, r, e, w) = record { words_written = rw is w; numbers = rw is e }
  where
    is : column (λ r. r.word) (rows n steps) ≡ concatenated (listing n)
    is = ap (column (λ r. r.word)) ((second-list-holds n run B steps end h).whole all) ∙ ap concatenated (words-rows (listing n))
