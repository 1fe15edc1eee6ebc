-- The numbers that a call leaves are those of the run that it leaves: they fit 16 bits, and its size is the one that it had.
use mathlib.Core.Path.{◌≡◌, refl, sym, ◌∙◌, ap}
use mathlib.Core.Logic.{inl, inr}
use mathlib.Core.List.{List, ◌∷◌}
use Prim.Native.Nat.{ℕ, zero, suc, ◌+◌, ◌-◌, ◌≤◌, min}
use native.Mathlib.Omega.{arith}
use lib.ListN.{length, get_or}
use Rattle.lists.specs.Ranges.{OneTo}
use Rattle.listing.specs.Listing.{count}
use Rattle.listing_ranking.proofs.Answers.{at_length}
use Rattle.run_answers.specs.declared.Run.{Run}
use Rattle.run_answers.specs.Promises.{RunAt, RunFinished, run_after}
use Rattle.run_validity.proofs.Standing.{stands-size}
use Rattle.std.specs.Prelude.{Ok, Err}
use Rattle.refusals.specs.declared.Refusal.{Refusal}
use Rattle.run_text.specs.declared.TextRows.{TextRows}
use Rattle.run_text.specs.Promises.{RowsPromise}
use Rattle.kaldvemir_layout_run.specs.Layout.{run_of, run_numbers}
use Rattle.kaldvemir_layout_run.proofs.Rows.{run_again}

pub record Fitting (l : List ℕ) (next : Run) : Type 0 where
  pub stage_small : next.stage ≤ 2
  pub length_small : next.length ≤ 51
  pub size_same : next.size ≡ get_or l 0 0

pub over-fits : (l : List ℕ) (n : ℕ) (next : Run) → RunFinished n (run_of l) → next ≡ run_of l → Fitting l next
over-fits l n next o e =
    let f = e ∙ o.is in
    record { stage_small = rw f (omega arith); length_small = rw f (omega arith); size_same = ap (λ (r : Run). r.size) e }

pub at-fits : (l : List ℕ) (n q : ℕ) (next : Run) → OneTo 50 n → q ≤ count n → get_or l 0 0 ≡ n → next ≡ run_after n q → Fitting l next
at-fits l n zero next b h s e = record { stage_small = rw e (omega arith); length_small = rw e (omega arith); size_same = rw (e, s) refl }
at-fits l n (suc q) next b h s e =
    let w = at_length n (suc q) (omega arith, h) in
    record { stage_small = rw e (omega arith); length_small = rw e (omega arith); size_same = rw (e, s) refl }

pub fitting-numbers : (l : List ℕ) (next : Run) → Fitting l next → get_or l 0 0 ∷ next.stage ∷ next.length ∷ next.items ≡ run_numbers next
fitting-numbers l next f = rw f.size_same refl

-- after rows
pub rows-fitting : (l : List ℕ) (asked : ℕ) (t : TextRows) (next : Run) (a b : List ℕ) → RowsPromise (run_of l) asked a next b (Ok t) → Fitting l next
rows-fitting l asked t next a b (inl x) = over-fits l x.0.0 next x.0.1 x.2
rows-fitting l asked t next a b (inr (n, p, R, r, e, T)) =
    let w = R.within in
    at-fits l n (p + t.rows) next R.sized (omega arith) (stands-size n p (run_of l) R) T.next_is

-- after a refusal
pub rows-refused : (l : List ℕ) (asked : ℕ) (refusal : Refusal) (next : Run) (a b : List ℕ) → length l ≡ 54 → RowsPromise (run_of l) asked a next b (Err refusal) → l ≡ run_numbers next
rows-refused l asked refusal next a b h P = sym (ap run_numbers P.1 ∙ run_again l h)
