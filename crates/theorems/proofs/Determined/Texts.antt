-- The text of the next rows of a run is determined, with how many there are, how many of them are kept, and the run after them.
use mathlib.Core.Path.{◌≡◌, sym, ap, ◌∙◌}
use mathlib.Core.Logic.{inl, inr}
use mathlib.Core.List.{List}
use Prim.Native.Nat.{ℕ, ◌+◌, ◌-◌, ◌*◌, ◌≤◌, ◌<◌, min}
use native.Mathlib.Omega.{arith}
use lib.ListN.{length}
use Rattle.std.specs.Prelude.{Result, Ok, Err}
use Rattle.refusals.specs.declared.Refusal.{Refusal}
use Rattle.refusals.specs.Numbers.{number}
use Rattle.lists.specs.Overwriting.{overwrite}
use Rattle.listing.specs.Listing.{count}
use Rattle.run_answers.specs.declared.Run.{Run}
use Rattle.run_answers.specs.Promises.{RunAt, run_after}
use Rattle.run_validity.proofs.Runs.{stands_once, stands-not-over}
use Rattle.run_blocks_answers.specs.Promises.{RefusedList}
use Rattle.census_definition.specs.Census.{rows, kept_among, row_bytes}
use Rattle.census_blocks.specs.Blocks.{RowsText}
use Rattle.run_text.specs.declared.TextRows.{TextRows}
use Rattle.run_text.specs.Promises.{RowsPromise}
use Rattle.theorems.proofs.Determined.Diagrams.{same-refusal}
use Rattle.theorems.proofs.Determined.Rows.{refused-rows-once}

-- two answers with the same numbers
same_rows : (t u : TextRows) → t.rows ≡ u.rows → t.bytes ≡ u.bytes → t.kept ≡ u.kept → t ≡ u
same_rows t u e f g i = record { rows = e i; bytes = f i; kept = g i }

text-once : (n p : ℕ) (t u : TextRows) (a b c : List ℕ) (next other : Run) → t.rows ≡ u.rows → RowsText n p t.rows a t.bytes t.kept next b → RowsText n p u.rows a u.bytes u.kept other c
    → (t ≡ u) × (next ≡ other) × (b ≡ c)
text-once n p t u a b c next other e T U = (
  same_rows t u e (T.bytes_are ∙ ap (λ (i : ℕ). length (rows n p i)) e ∙ sym U.bytes_are) (T.kept_are ∙ ap (kept_among n p) e ∙ sym U.kept_are),
  T.next_is ∙ ap (λ (i : ℕ). run_after n (p + i)) e ∙ sym U.next_is,
  T.written ∙ ap (λ (i : ℕ). overwrite (rows n p i) a) e ∙ sym U.written,
)

-- a run that gave rows is refused none
not-refused : (run : Run) (asked : ℕ) (a : List ℕ) (next : Run) (b : List ℕ) (t : TextRows) (k : ℕ) → RowsPromise run asked a next b (Ok t) → RefusedList run (λ n. length a < asked * row_bytes n) k → ⊥
not-refused run asked a next b t k (inl x) (inl y) = y.2 x.0.0 x.0.1
not-refused run asked a next b t k (inl x) (inr y) = stands-not-over y.1.2 x.0.1
not-refused run asked a next b t k (inr x) (inl y) = y.1 x.0 x.1 x.2
not-refused run asked a next b t k (inr x) (inr y) = let o = stands_once x.2 y.1.2 in let r = x.3 in let s = rw (← o.0) at y.1.3 in omega arith

pub rows_once : (run : Run) (asked : ℕ) (a : List ℕ) (next other : Run) (b c : List ℕ) (r q : Result TextRows Refusal)
    → RowsPromise run asked a next b r → RowsPromise run asked a other c q → (r ≡ q) × (next ≡ other) × (b ≡ c)
rows_once run asked a next other b c (Ok t) (Ok u) (inl x) (inl y) = (x.1 ∙ sym y.1, x.2 ∙ sym y.2, x.3 ∙ sym y.3)
rows_once run asked a next other b c (Ok t) (Ok u) (inl x) (inr y) = absurd (stands-not-over y.2 x.0.1)
rows_once run asked a next other b c (Ok t) (Ok u) (inr x) (inl y) = absurd (stands-not-over x.2 y.0.1)
rows_once run asked a next other b c (Ok t) (Ok u) (inr (n, p, R, s, e, T)) (inr (n', p', R', s', e', T')) =
    let o = stands_once R' R in
    let w = text-once n p t u a b c next other (e ∙ sym (rw (o.0, o.1) at e')) T (rw (o.0, o.1) at T') in
    (ap Ok w.0, w.1, w.2)
rows_once run asked a next other b c (Ok t) (Err e) x y = absurd (not-refused run asked a next b t (number e) x y.0)
rows_once run asked a next other b c (Err e) (Ok t) x y = absurd (not-refused run asked a other c t (number e) y x.0)
rows_once run asked a next other b c (Err e) (Err d) x y = (same-refusal (refused-rows-once run (λ n. length a < asked * row_bytes n) (number e) (number d) x.0 y.0), x.1 ∙ sym y.1, x.2 ∙ sym y.2)
