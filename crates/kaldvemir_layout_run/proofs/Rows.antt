-- The row of numbers that a run is.
use mathlib.Core.Path.{◌≡◌, ◌∙◌, ap}
use mathlib.Core.List.{List, [], ◌∷◌, ◌++◌, append-nil}
use Prim.Native.Nat.{ℕ}
use native.Mathlib.Omega.{arith}
use lib.ListN.{length, get_or, set, drop_of_length-le}
use lib.Seq.{paste, take_all}
use Rattle.kaldvemir_layout_run.specs.Layout.{run_of, run_numbers}

pub run_row : (l items : List ℕ) (a b : ℕ) → length l ≡ 54 → length items ≡ 51 → paste (set (set l 1 a) 2 b) 3 items 51 ≡ get_or l 0 0 ∷ a ∷ b ∷ items
run_row (x0 ∷ x1 ∷ x2 ∷ m) items a b hl hi =
    rw (take_all 51 items (omega arith)) (ap (λ (q : List ℕ). x0 ∷ a ∷ b ∷ (items ++ q)) (drop_of_length-le m {i = 51} (omega arith)) ∙ ap (λ (q : List ℕ). x0 ∷ a ∷ b ∷ q) (append-nil items))
run_row [] items a b hl hi = absurd (omega arith)
run_row (x0 ∷ []) items a b hl hi = absurd (omega arith)
run_row (x0 ∷ x1 ∷ []) items a b hl hi = absurd (omega arith)

-- a run is what its numbers are
pub run_again : (l : List ℕ) → length l ≡ 54 → run_numbers (run_of l) ≡ l
run_again (x0 ∷ x1 ∷ x2 ∷ m) h = ap (λ (q : List ℕ). x0 ∷ x1 ∷ x2 ∷ q) (take_all 51 m (omega arith))
run_again [] h = absurd (omega arith)
run_again (x0 ∷ []) h = absurd (omega arith)
run_again (x0 ∷ x1 ∷ []) h = absurd (omega arith)
