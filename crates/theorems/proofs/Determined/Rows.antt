-- A run's beginning, its step and a listing in blocks leave one answer, one run, and one content of each lent list. A step is the listing of one
-- row, so one law serves both: where the run stands decides the answer and the run that is left, and the lists are what goes with that place.
use mathlib.Core.Path.{◌≡◌, refl, sym, ap, ◌∙◌}
use mathlib.Core.Logic.{◌⊎◌, inl, inr, ⊎_elim}
use mathlib.Core.List.{List}
use Prim.Native.Nat.{ℕ, suc, ◌+◌, ◌<◌}
use native.Mathlib.Omega.{arith}
use lib.ListN.{length, get_or}
use lib.Seq.{ext_get_or}
use Rattle.std.specs.Prelude.{Option, Some, None, Result, Ok, Err}
use Rattle.refusals.specs.declared.Refusal.{Refusal}
use Rattle.refusals.specs.Numbers.{number}
use Rattle.words.specs.Word.{Pair}
use Rattle.words.specs.Outputs.{Short, Written, Untouched, overwrite}
use Rattle.listing.specs.Listing.{count}
use Rattle.listing.specs.Position.{word_at}
use Rattle.listing.specs.Diagrams.{diagram_at}
use Rattle.run_answers.specs.declared.Run.{Run}
use Rattle.run_steps.specs.Promises.{run_after, RunAt, RunFinished, BeginPromise, BeginAtPromise, StepPromise}
use Rattle.run_blocks.specs.Rows.{MarkOf, Marks, MarksWritten}
use Rattle.run_blocks.specs.Promises.{ShortRows, Block, RunAfterRows, ListsUntouched, RefusedList, ListPromise, ListMarkedPromise}
use Rattle.theorems.specs.Determined.{SameLists}
use Rattle.run_validity.proofs.Runs.{stands_once, stands-not-over}
use Rattle.theorems.proofs.Determined.Diagrams.{written_once, untouched-once, same-refusal}

-- ---- the beginning

pub begin_once : (n : ℕ) (next other : Run) (r q : Result (Unit {0}) Refusal) → BeginPromise n next r → BeginPromise n other q → (r ≡ q) × (next ≡ other)
begin_once n next other (Ok u) (Ok v) x y = (refl, x.1 ∙ sym y.1)
begin_once n next other (Ok u) (Err e) x y = absurd (y.1 x.0)
begin_once n next other (Err e) (Ok u) x y = absurd (x.1 y.0)
begin_once n next other (Err r) (Err q) x y = (same-refusal (x.0 ∙ sym y.0), x.2 ∙ sym y.2)

-- a run that stands at p is refused neither for its size nor for its position
begun-not-refused : (n p : ℕ) (next other : Run) (r : Refusal) → RunAt n p next → BeginAtPromise n p other (Err r) → ⊥
begun-not-refused n p next other r S (inl x, e) = x.1 S.sized
begun-not-refused n p next other r S (inr x, e) = let l = S.within in let c = x.2 in omega arith

pub begin_at_once : (n p : ℕ) (next other : Run) (r q : Result (Unit {0}) Refusal) → BeginAtPromise n p next r → BeginAtPromise n p other q → (r ≡ q) × (next ≡ other)
begin_at_once n p next other (Ok u) (Ok v) x y = (refl, x.is ∙ sym y.is)
begin_at_once n p next other (Ok u) (Err e) x y = absurd (begun-not-refused n p next other e x y)
begin_at_once n p next other (Err e) (Ok u) x y = absurd (begun-not-refused n p other next e y x)
begin_at_once n p next other (Err r) (Err q) (inl x, e) (inl y, f) = (same-refusal (x.0 ∙ sym y.0), e ∙ sym f)
begin_at_once n p next other (Err r) (Err q) (inl x, e) (inr y, f) = absurd (x.1 y.1)
begin_at_once n p next other (Err r) (Err q) (inr x, e) (inl y, f) = absurd (y.1 x.1)
begin_at_once n p next other (Err r) (Err q) (inr x, e) (inr y, f) = (same-refusal (x.0 ∙ sym y.0), e ∙ sym f)

-- ---- rows of a run, whatever is said of the lists: Wrote n p k after a listing of k rows behind position p, Left after one of a finished run or
-- a refusal

-- a run that stands at p gave k of the rows asked for
abbrev Stood : Run → ℕ → (ℕ → Type 0) → (ℕ → ℕ → ℕ → Type 0) → Run → ℕ → Type 0
Stood run rows Short Wrote next k = (n : ℕ) × (p : ℕ) × RunAt n p run × (¬ Short n) × RunAfterRows n p rows k next × Wrote n p k

-- the promise of a listing, over what it says of the lists and of their room
abbrev Listed : Run → ℕ → (ℕ → Type 0) → (ℕ → ℕ → ℕ → Type 0) → Type 0 → Run → Result ℕ Refusal → Type 0
Listed run rows Short Wrote Left next (Ok k) = (((n : ℕ) × RunFinished n run) × (k ≡ 0) × (next ≡ run) × Left) ⊎ Stood run rows Short Wrote next k
Listed run rows Short Wrote Left next (Err e) = RefusedList run Short (number e) × (next ≡ run) × Left

-- at a place, the rows asked for and the count decide how many rows come and the run after them
leaves-once : (n p rows k l : ℕ) (next other : Run) → RunAfterRows n p rows k next → RunAfterRows n p rows l other → (k ≡ l) × (next ≡ other)
leaves-once n p rows k l next other (inl x) (inl y) = let e : k ≡ l = x.0 ∙ sym y.0 in (e, x.2 ∙ ap (λ (m : ℕ). run_after n (p + m)) e ∙ sym y.2)
leaves-once n p rows k l next other (inl x) (inr y) = let a = x.0 in let b = x.1 in let c = y.0 in let d = y.1 in absurd (omega arith)
leaves-once n p rows k l next other (inr x) (inl y) = let a = x.0 in let b = x.1 in let c = y.0 in let d = y.1 in absurd (omega arith)
leaves-once n p rows k l next other (inr x) (inr y) = let a = x.1 in let b = y.1 in (omega arith, x.2 ∙ sym y.2)

-- a run that gave rows is refused none
rows-not-refused : (run : Run) (rows : ℕ) (Short : ℕ → Type 0) (Wrote : ℕ → ℕ → ℕ → Type 0) (Left : Type 0) (next : Run) (k number : ℕ)
    → Listed run rows Short Wrote Left next (Ok k) → RefusedList run Short number → ⊥
rows-not-refused run rows Short Wrote Left next k number (inl x) (inl y) = y.2 x.0.0 x.0.1
rows-not-refused run rows Short Wrote Left next k number (inl x) (inr y) = stands-not-over y.1.2 x.0.1
rows-not-refused run rows Short Wrote Left next k number (inr x) (inl y) = y.1 x.0 x.1 x.2
rows-not-refused run rows Short Wrote Left next k number (inr x) (inr y) = x.3 (rw (stands_once x.2 y.1.2).0 y.1.3)

pub refused-rows-once : (run : Run) (Short : ℕ → Type 0) (j k : ℕ) → RefusedList run Short j → RefusedList run Short k → j ≡ k
refused-rows-once run Short j k (inl x) (inl y) = x.0 ∙ sym y.0
refused-rows-once run Short j k (inl x) (inr y) = absurd (x.1 y.1.0 y.1.1 y.1.2)
refused-rows-once run Short j k (inr x) (inl y) = absurd (y.1 x.1.0 x.1.1 x.1.2)
refused-rows-once run Short j k (inr x) (inr y) = x.0 ∙ sym y.0

module _ (run : Run) (rows : ℕ) (Short : ℕ → Type 0) (Wrote Wrote' : ℕ → ℕ → ℕ → Type 0) (Left Left' : Type 0) where
  -- the same answer and run, and both lists as they were or both with the same rows
  abbrev Agree : Run → Run → Result ℕ Refusal → Result ℕ Refusal → Type 0
  Agree next other r q = (r ≡ q) × (next ≡ other) × ((Left × Left') ⊎ ((n : ℕ) × (p : ℕ) × (k : ℕ) × Wrote n p k × Wrote' n p k))

  stood-once : (next other : Run) (k l : ℕ) → Stood run rows Short Wrote next k → Stood run rows Short Wrote' other l → Agree next other (Ok k) (Ok l)
  stood-once next other k l (n, p, S, r, L, h) (n', p', S', r', L', h') = go (stands_once S' S)
    where
      go : (n' ≡ n) × (p' ≡ p) → Agree next other (Ok k) (Ok l)
      go e =
          let m = leaves-once n p rows k l next other L (rw (e.0, e.1) at L') in
          (ap Ok m.0, m.1, inr (n, p, k, h, rw (e.0, e.1, ← m.0) at h'))

  listed-once : (next other : Run) (r q : Result ℕ Refusal) → Listed run rows Short Wrote Left next r → Listed run rows Short Wrote' Left' other q → Agree next other r q
  listed-once next other (Ok k) (Ok l) (inl x) (inl y) = (ap Ok (x.1 ∙ sym y.1), x.2 ∙ sym y.2, inl (x.3, y.3))
  listed-once next other (Ok k) (Ok l) (inl x) (inr y) = absurd (stands-not-over y.2 x.0.1)
  listed-once next other (Ok k) (Ok l) (inr x) (inl y) = absurd (stands-not-over x.2 y.0.1)
  listed-once next other (Ok k) (Ok l) (inr x) (inr y) = stood-once next other k l x y
  listed-once next other (Ok k) (Err e) x y = absurd (rows-not-refused run rows Short Wrote Left next k (number e) x y.0)
  listed-once next other (Err e) (Ok l) x y = absurd (rows-not-refused run rows Short Wrote' Left' other l (number e) y x.0)
  listed-once next other (Err e) (Err d) x y = (same-refusal (refused-rows-once run Short (number e) (number d) x.0 y.0), x.1 ∙ sym y.1, inl (x.2, y.2))

-- ---- the listing

block-once : {n p k : ℕ} {a0 a1 aw al b0 b1 bw bl c0 c1 cw cl : List ℕ} → Block n p k a0 a1 aw al b0 b1 bw bl → Block n p k a0 a1 aw al c0 c1 cw cl → SameLists b0 b1 bw c0 c1 cw × (bl ≡ cl)
block-once x y = (
  record { s0_same = x.s0_written ∙ sym y.s0_written; s1_same = x.s1_written ∙ sym y.s1_written; word_same = x.words_written ∙ sym y.words_written },
  x.lengths_written ∙ sym y.lengths_written,
)

same_once : {a0 a1 aw al b0 b1 bw bl c0 c1 cw cl : List ℕ} → ListsUntouched a0 a1 aw al b0 b1 bw bl → ListsUntouched a0 a1 aw al c0 c1 cw cl → SameLists b0 b1 bw c0 c1 cw × (bl ≡ cl)
same_once x y = (
  record { s0_same = x.s0_same ∙ sym y.s0_same; s1_same = x.s1_same ∙ sym y.s1_same; word_same = x.words_same ∙ sym y.words_same },
  x.lengths_same ∙ sym y.lengths_same,
)

module _ (run : Run) (rows : ℕ) (a0 a1 aw al : List ℕ) where
  abbrev TooShort : ℕ → Type 0
  TooShort n = ShortRows n rows a0 a1 aw al

  list-listed : (next : Run) (b0 b1 bw bl : List ℕ) (r : Result ℕ Refusal) → ListPromise run rows a0 a1 aw al next b0 b1 bw bl r
      → Listed run rows TooShort (λ n p k. Block n p k a0 a1 aw al b0 b1 bw bl) (ListsUntouched a0 a1 aw al b0 b1 bw bl) next r
  list-listed next b0 b1 bw bl (Ok k) (inl x) = inl x
  list-listed next b0 b1 bw bl (Ok k) (inr g) = inr (g.size, g.place, g.stands, g.roomy, g.leaves, g.written)
  list-listed next b0 b1 bw bl (Err e) x = x

  pub list_once : (next other : Run) (b0 b1 bw bl c0 c1 cw cl : List ℕ) (r q : Result ℕ Refusal) → ListPromise run rows a0 a1 aw al next b0 b1 bw bl r → ListPromise run rows a0 a1 aw al other c0 c1 cw cl q
      → (r ≡ q) × (next ≡ other) × SameLists b0 b1 bw c0 c1 cw × (bl ≡ cl)
  list_once next other b0 b1 bw bl c0 c1 cw cl r q x y =
      let e = listed-once run rows TooShort _ _ _ _ next other r q (list-listed next b0 b1 bw bl r x) (list-listed other c0 c1 cw cl q y) in
      let s : SameLists b0 b1 bw c0 c1 cw × (bl ≡ cl) = ⊎_elim (λ k. same_once k.0 k.1) (λ h. block-once h.3 h.4) e.2 in
      (e.0, e.1, s.0, s.1)

-- ---- the listing with keep marks

mark-once : (D : Pair) (x y : ℕ) → MarkOf D x → MarkOf D y → x ≡ y
mark-once D x y (inl a) (inl b) = a.0 ∙ sym b.0
mark-once D x y (inl a) (inr b) = absurd (b.1 a.1)
mark-once D x y (inr a) (inl b) = absurd (a.1 b.1)
mark-once D x y (inr a) (inr b) = a.0 ∙ sym b.0

marks-once : (n p k : ℕ) (l m : List ℕ) → Marks n p k l → Marks n p k m → l ≡ m
marks-once n p k l m x y =
    let e = x.long in
    ext_get_or 0 l m (x.long ∙ sym y.long) (λ i s. mark-once (diagram_at n (suc (p + i))) (get_or l i 0) (get_or m i 0) (x.each i (omega arith)) (y.each i (omega arith)))

marked-once : {n p k : ℕ} {am bm cm : List ℕ} → MarksWritten n p k am bm → MarksWritten n p k am cm → bm ≡ cm
marked-once {n} {p} {k} {am} x y = x.written ∙ ap (λ (l : List ℕ). overwrite l am) (marks-once n p k x.marks y.marks x.are y.are) ∙ sym y.written

module _ (run : Run) (rows : ℕ) (a0 a1 aw al am : List ℕ) where
  abbrev TooShortMarked : ℕ → Type 0
  TooShortMarked n = ShortRows n rows a0 a1 aw al ⊎ (length am < rows)

  marked-listed : (next : Run) (b0 b1 bw bl bm : List ℕ) (r : Result ℕ Refusal) → ListMarkedPromise run rows a0 a1 aw al am next b0 b1 bw bl bm r
      → Listed run rows TooShortMarked (λ n p k. Block n p k a0 a1 aw al b0 b1 bw bl × MarksWritten n p k am bm) (ListsUntouched a0 a1 aw al b0 b1 bw bl × (bm ≡ am)) next r
  marked-listed next b0 b1 bw bl bm (Ok k) (inl x) = inl (x.0.0, x.0.1, x.0.2, (x.0.3, x.1))
  marked-listed next b0 b1 bw bl bm (Ok k) (inr g) =
      let l = g.roomy_marks in
      inr (g.gave.size, g.gave.place, g.gave.stands, ⊎_elim g.gave.roomy (λ s. omega arith), g.gave.leaves, (g.gave.written, g.marked))
  marked-listed next b0 b1 bw bl bm (Err e) x = (x.0, x.1, (x.2, x.3))

  pub list_marked_once : (next other : Run) (b0 b1 bw bl bm c0 c1 cw cl cm : List ℕ) (r q : Result ℕ Refusal)
      → ListMarkedPromise run rows a0 a1 aw al am next b0 b1 bw bl bm r → ListMarkedPromise run rows a0 a1 aw al am other c0 c1 cw cl cm q
      → (r ≡ q) × (next ≡ other) × SameLists b0 b1 bw c0 c1 cw × (bl ≡ cl) × (bm ≡ cm)
  list_marked_once next other b0 b1 bw bl bm c0 c1 cw cl cm r q x y =
      let e = listed-once run rows TooShortMarked _ _ _ _ next other r q (marked-listed next b0 b1 bw bl bm r x) (marked-listed other c0 c1 cw cl cm q y) in
      let s : SameLists b0 b1 bw c0 c1 cw × (bl ≡ cl) = ⊎_elim (λ k. same_once k.0.0 k.1.0) (λ h. block-once h.3.0 h.4.0) e.2 in
      let m : bm ≡ cm = ⊎_elim (λ k. k.0.1 ∙ sym k.1.1) (λ h. marked-once h.3.1 h.4.1) e.2 in
      (e.0, e.1, s.0, s.1, m)

-- ---- the step: one row

-- the answer of a step as that of a listing of one row
abbrev rows_of : Result (Option ℕ) Refusal → Result ℕ Refusal
rows_of (Ok (Some m)) = Ok 1
rows_of (Ok None) = Ok 0
rows_of (Err e) = Err e

module _ (run : Run) (a0 a1 aw : List ℕ) where
  -- the lists after a step of a run that stands at p, and after one of a finished run or a refusal
  abbrev StepWrote : List ℕ → List ℕ → List ℕ → Result (Option ℕ) Refusal → ℕ → ℕ → ℕ → Type 0
  StepWrote b0 b1 bw (Ok (Some m)) n p k = (m ≡ length (word_at n (suc p))) × Written (diagram_at n (suc p)) (word_at n (suc p)) a0 a1 aw b0 b1 bw
  StepWrote b0 b1 bw (Ok None) n p k = Untouched a0 a1 aw b0 b1 bw
  StepWrote b0 b1 bw (Err r) n p k = Untouched a0 a1 aw b0 b1 bw

  abbrev StepLeft : List ℕ → List ℕ → List ℕ → Result (Option ℕ) Refusal → Type 0
  StepLeft b0 b1 bw (Ok (Some m)) = ⊥
  StepLeft b0 b1 bw (Ok None) = Untouched a0 a1 aw b0 b1 bw
  StepLeft b0 b1 bw (Err q) = Untouched a0 a1 aw b0 b1 bw

  step-listed : (next : Run) (b0 b1 bw : List ℕ) (r : Result (Option ℕ) Refusal) → StepPromise run next a0 a1 aw b0 b1 bw r → Listed run 1 (λ n. Short n a0 a1 aw) (StepWrote b0 b1 bw r) (StepLeft b0 b1 bw r) next (rows_of r)
  step-listed next b0 b1 bw (Ok (Some m)) (n, p, S, l, r, x, e, w) = let z : suc p ≡ p + 1 = omega arith in inr (n, p, S, r, inl (refl, omega arith, x ∙ ap (run_after n) z), (e, w))
  step-listed next b0 b1 bw (Ok None) ((n, x, inl O), u) = inl ((n, O), refl, x ∙ sym O.is, u)
  step-listed next b0 b1 bw (Ok None) ((n, x, inr S), u) = inr (n, count n, S.0, S.1, inr (omega arith, omega arith, x), u)
  step-listed next b0 b1 bw (Err q) x = x

  -- the lists after two steps that agree
  abbrev Both : List ℕ → List ℕ → List ℕ → List ℕ → List ℕ → List ℕ → Result (Option ℕ) Refusal → Result (Option ℕ) Refusal → Type 0
  Both b0 b1 bw c0 c1 cw r q = (StepLeft b0 b1 bw r × StepLeft c0 c1 cw q) ⊎ ((n : ℕ) × (p : ℕ) × (k : ℕ) × StepWrote b0 b1 bw r n p k × StepWrote c0 c1 cw q n p k)

  row-once : (b0 b1 bw c0 c1 cw : List ℕ) (r q : Result (Option ℕ) Refusal) → rows_of r ≡ rows_of q → Both b0 b1 bw c0 c1 cw r q → (r ≡ q) × SameLists b0 b1 bw c0 c1 cw
  row-once b0 b1 bw c0 c1 cw (Ok (Some m)) (Ok (Some k)) e (inl x) = absurd x.0
  row-once b0 b1 bw c0 c1 cw (Ok (Some m)) (Ok (Some k)) e (inr x) = (ap (λ (m : ℕ). Ok (Some m)) (x.3.0 ∙ sym x.4.0), written_once x.3.1 x.4.1)
  row-once b0 b1 bw c0 c1 cw (Ok None) (Ok None) e x = (refl, ⊎_elim (λ y. untouched-once y.0 y.1) (λ y. untouched-once y.3 y.4) x)
  row-once b0 b1 bw c0 c1 cw (Err r) (Err q) e x = (cc, ⊎_elim (λ y. untouched-once y.0 y.1) (λ y. untouched-once y.3 y.4) x)
  row-once b0 b1 bw c0 c1 cw (Ok (Some m)) (Ok None) e x = let z : ◌≡◌ {A = ℕ} 0 1 = cc in absurd (omega arith)
  row-once b0 b1 bw c0 c1 cw (Ok (Some m)) (Err q) e x = let z : ◌≡◌ {A = ℕ} 0 1 = cc in absurd (omega arith)
  row-once b0 b1 bw c0 c1 cw (Ok None) (Ok (Some m)) e x = let z : ◌≡◌ {A = ℕ} 0 1 = cc in absurd (omega arith)
  row-once b0 b1 bw c0 c1 cw (Ok None) (Err q) e x = let z : ◌≡◌ {A = ℕ} 0 1 = cc in absurd (omega arith)
  row-once b0 b1 bw c0 c1 cw (Err r) (Ok (Some m)) e x = let z : ◌≡◌ {A = ℕ} 0 1 = cc in absurd (omega arith)
  row-once b0 b1 bw c0 c1 cw (Err r) (Ok None) e x = let z : ◌≡◌ {A = ℕ} 0 1 = cc in absurd (omega arith)

  pub step_once : (next other : Run) (b0 b1 bw c0 c1 cw : List ℕ) (r q : Result (Option ℕ) Refusal) → StepPromise run next a0 a1 aw b0 b1 bw r → StepPromise run other a0 a1 aw c0 c1 cw q
      → (r ≡ q) × (next ≡ other) × SameLists b0 b1 bw c0 c1 cw
  step_once next other b0 b1 bw c0 c1 cw r q x y =
      let e = listed-once run 1 (λ n. Short n a0 a1 aw) _ _ _ _ next other (rows_of r) (rows_of q) (step-listed next b0 b1 bw r x) (step-listed other c0 c1 cw q y) in
      let s = row-once b0 b1 bw c0 c1 cw r q e.0 e.2 in
      (s.0, e.1, s.1)
