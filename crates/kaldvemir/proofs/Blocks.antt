-- The numbers that a listing leaves are those of its run: they fit 16 bits, and its size is the one that it had.
use mathlib.Core.Path.{◌≡◌, refl, sym, ◌∙◌, ap}
use mathlib.Core.Logic.{inl, inr}
use mathlib.Core.List.{List}
use Prim.Native.Nat.{ℕ, ◌+◌}
use native.Mathlib.Omega.{arith}
use lib.ListN.{length}
use Rattle.run_answers.specs.declared.Run.{Run}
use Rattle.run_steps.specs.Promises.{RunAt}
use Rattle.run_steps.proofs.Standing.{stands-size}
use Rattle.run_blocks.specs.Promises.{RunAfterRows, ListPromise, ListMarkedPromise}
use Rattle.run_blocks.proofs.Whole.{marked-lists}
use Rattle.std.specs.Prelude.{Result, Ok, Err}
use Rattle.refusals.specs.declared.Refusal.{Refusal}
use Rattle.kaldvemir_layout_run.specs.Layout.{run_of, run_numbers}
use Rattle.kaldvemir_layout_run.proofs.Rows.{run_again}
use Rattle.kaldvemir_answers_run.specs.Runs.{list_numbers, FitsRows}
use Rattle.kaldvemir_rows.proofs.Fitting.{Fitting, over-fits, at-fits, fitting-numbers}

gave_fits : (l : List ℕ) (n p rows k : ℕ) (next : Run) → RunAt n p (run_of l) → RunAfterRows n p rows k next → Fitting l next
gave_fits l n p rows k next s (inl (a, h, e)) = at-fits l n (p + k) next s.sized h (stands-size n p (run_of l) s) e
gave_fits l n p rows k next s (inr (a, h, e)) = record { stage_small = rw e (omega arith); length_small = rw e (omega arith); size_same = rw (e, stands-size n p (run_of l) s) refl }

rows_fit : (l : List ℕ) (rows k : ℕ) (next : Run) (a0 a1 aw al b0 b1 bw bl : List ℕ) → ListPromise (run_of l) rows a0 a1 aw al next b0 b1 bw bl (Ok k) → Fitting l next
rows_fit l rows k next a0 a1 aw al b0 b1 bw bl (inl x) = over-fits l x.0.0 next x.0.1 x.2
rows_fit l rows k next a0 a1 aw al b0 b1 bw bl (inr g) = gave_fits l g.size g.place rows k next g.stands g.leaves

-- ---- the run that an answer leaves

abbrev pub Left : List ℕ → Run → Result ℕ Refusal → Type 0
Left l next (Ok k) = Fitting l next
Left l next (Err e) = next ≡ run_of l

pub left-fits : (l : List ℕ) (next : Run) (a : Result ℕ Refusal) → Left l next a → FitsRows a next
left-fits l next (Ok k) f = (f.stage_small, f.length_small)
left-fits l next (Err r) e = tt

pub left-numbers : (l : List ℕ) (next : Run) (a : Result ℕ Refusal) → length l ≡ 54 → Left l next a → list_numbers a next l ≡ run_numbers next
left-numbers l next (Ok k) h f = fitting-numbers l next f
left-numbers l next (Err r) h e = sym (ap run_numbers e ∙ run_again l h)

module _ (l : List ℕ) (rows : ℕ) (next : Run) (a0 a1 aw al b0 b1 bw bl : List ℕ) where
  pub list_left : (a : Result ℕ Refusal) → ListPromise (run_of l) rows a0 a1 aw al next b0 b1 bw bl a → Left l next a
  list_left (Ok k) s = rows_fit l rows k next a0 a1 aw al b0 b1 bw bl s
  list_left (Err e) s = s.1

  pub marked-left : (am bm : List ℕ) (a : Result ℕ Refusal) → ListMarkedPromise (run_of l) rows a0 a1 aw al am next b0 b1 bw bl bm a → Left l next a
  marked-left am bm (Ok k) s = rows_fit l rows k next a0 a1 aw al b0 b1 bw bl (marked-lists (run_of l) rows k next a0 a1 aw al am b0 b1 bw bl bm s)
  marked-left am bm (Err e) s = s.1
