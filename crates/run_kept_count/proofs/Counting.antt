-- The kept diagrams counted a block at a time.
use mathlib.Core.Path.{◌≡◌, refl, sym, ap, ◌∙◌, subst}
use mathlib.Core.Logic.{inl, inr}
use mathlib.Core.Bool.{cond}
use mathlib.Core.List.{List}
use Prim.Native.Nat.{ℕ, ◌+◌, ◌^◌, ◌≤◌, ◌<◌}
use native.Mathlib.Nat.{zero-add}
use native.Mathlib.Numerals.{add-one}
use native.Mathlib.Omega.{arith}
use lib.Dec.{eqb}
use lib.ListN.{get_or}
use Rattle.lists.specs.Ranges.{OneTo}
use Rattle.listing.specs.Listing.{count}
use Rattle.listing_table.proofs.Counts.{count_small}
use Rattle.run_answers.specs.declared.Run.{Run}
use Rattle.run_answers.specs.Promises.{fresh, RunAt}
use Rattle.run_validity.proofs.Standing.{stands-size}
use Rattle.run_rows_writing.specs.Promises.{RunAfterRows, RowsGiven}
use Rattle.run_marks.specs.Marks.{BlockHeld, MarksWritten}
use Rattle.census_rows.specs.Rows as marks
use Rattle.census_definition.specs.Census.{kept_among, kept_count}
use Rattle.census_definition.proofs.Kept.{kept_then, kept-most}
use Rattle.census_blocks.proofs.Texts.{held, leaves, block-kept}
use Rattle.run_kept_count.specs.Promises.{BlockCounted}

-- ---- the marks of a block

-- so many of the first i marks are 1
pub record MarksCounted (m : List ℕ) (rows kept i : ℕ) : Type 0 where
  pub within : i ≤ rows
  pub few : kept ≤ i
  pub counted : kept ≡ marks.kept_among m i

pub marks-none : (m : List ℕ) (rows : ℕ) → MarksCounted m rows 0 0
unfolding marks.kept_among
marks-none m rows = record { within = omega arith; few = omega arith; counted = refl }

pub marks-more : {m : List ℕ} {rows kept i more : ℕ} → MarksCounted m rows kept i → i < rows → more ≡ cond (eqb (get_or m i 0) 1) 1 0 → more ≤ 1 → MarksCounted m rows (kept + more) (i + 1)
unfolding marks.kept_among
marks-more C h e l = record { within = omega arith; few = let f = C.few in omega arith; counted = rw (add-one, C.counted, e) }

pub marks-all : {m : List ℕ} {rows kept i : ℕ} → MarksCounted m rows kept i → rows ≤ i → kept ≡ marks.kept_among m rows
marks-all {m} {rows} {i = i} C h = let w = C.within in let e : i ≡ rows = omega arith in C.counted ∙ ap (marks.kept_among m) e

-- ---- a block

-- the marks of a block that was written, counted
pub block-counted : {run : Run} {p k kept : ℕ} {next : Run} {a0 a1 aw al b0 b1 bw bl am bm : List ℕ} → RunAt run.size p run → RowsGiven run 48 k next a0 a1 aw al b0 b1 bw bl
    → ((q : ℕ) → BlockHeld run.size q k b0 b1 bw bl → MarksWritten run.size q k am bm) → kept ≡ marks.kept_among bm k → BlockCounted run.size p k kept next
block-counted {k = k} R G M e = record {
  leaves = leaves R G;
  counted = e ∙ block-kept (held R G) (M _ (held R G)) k (omega arith);
}

-- ---- all blocks

-- so many diagrams of size n are listed, and so many of them are kept; the run is after them where there are more
pub record Counting (n : ℕ) (run : Run) (given kept : ℕ) : Type 0 where
  pub within : given ≤ count n
  pub counted : kept ≡ kept_among n 0 given
  pub stands : given < count n → RunAt n given run

pub counting-none : (n : ℕ) → OneTo 50 n → Counting n (fresh n) 0 0
unfolding kept_among
counting-none n s = record { within = omega arith; counted = refl; stands = λ l. record { sized = s; within = omega arith; is = refl } }

-- the count is the number that the code has found
pub more_left : (n total given : ℕ) → total ≡ count n → given < total → given < count n
more_left n total given e h = omega arith

module _ {n : ℕ} {run : Run} {given kept : ℕ} (s : OneTo 50 n) (C : Counting n run given kept) where
  run-size : given < count n → run.size ≡ n
  run-size h = stands-size n given run (C.stands h)

  -- what the next block asks for, and what it brings
  pub counting-stands : given < count n → RunAt run.size given run
  counting-stands h = subst (λ (m : ℕ). RunAt m given run) (sym (run-size h)) (C.stands h)

  pub counting-block : {rows more : ℕ} {next : Run} → given < count n → ((p : ℕ) → RunAt run.size p run → BlockCounted run.size p rows more next) → BlockCounted n given rows more next
  counting-block {rows} {more} {next} h f = subst (λ (m : ℕ). BlockCounted m given rows more next) (run-size h) (f given (counting-stands h))

  pub counting_more : {rows more : ℕ} {next : Run} → given < count n → BlockCounted n given rows more next → Counting n next (given + rows) (kept + more)
  counting_more {rows} {more} {next} h B = record {
    within = within B.leaves;
    counted = rw (C.counted, B.counted) (sym (rw zero-add at (kept_then n 0 given rows)));
    stands = stands B.leaves;
  }
    where
      within : RunAfterRows n given 48 rows next → given + rows ≤ count n
      within (inl (e, l, q)) = l
      within (inr (l, e, q)) = omega arith

      stands : RunAfterRows n given 48 rows next → given + rows < count n → RunAt n (given + rows) next
      stands (inl (e, l, q)) i = record { sized = s; within = l; is = q }
      stands (inr (l, e, q)) i = absurd (omega arith)

  -- each block has a diagram
  pub counting-falls : {rows more : ℕ} {next : Run} → given < count n → BlockCounted n given rows more next → 1 ≤ rows
  counting-falls {rows} {more} {next} h B = go B.leaves
    where
      go : RunAfterRows n given 48 rows next → 1 ≤ rows
      go (inl (e, l, q)) = omega arith
      go (inr (l, e, q)) = omega arith

  pub counting-small : (given < 2 ^ 50) × (kept ≤ given)
  counting-small = let l = count_small n s in let w = C.within in let m = kept-most n 0 given in let e = C.counted in (omega arith, omega arith)

  pub counting-all : count n ≤ given → kept ≡ kept_count n
  counting-all h = let w = C.within in let e : given ≡ count n = omega arith in C.counted ∙ ap (kept_among n 0) e
