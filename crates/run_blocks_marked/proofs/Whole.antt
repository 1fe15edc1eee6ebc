-- A block that was written and marked is what `list_marked` promises.
use mathlib.Core.Logic.{◌⊎◌, inl, inr}
use mathlib.Core.List.{List}
use Prim.Native.Nat.{ℕ, ◌≤◌}
use lib.ListN.{length}
use Rattle.run_answers.specs.declared.Run.{Run}
use Rattle.run_validity.proofs.Standing.{stands-size}
use Rattle.run_marks.specs.Marks.{MarksWritten}
use Rattle.run_blocks_answers.specs.Promises.{RowsGiven, RefusedList, MarkedRowsGiven, ListPromise, ListMarkedPromise}
use Rattle.std.specs.Prelude.{Ok}

module _ {run : Run} {rows k : ℕ} {next : Run} {a0 a1 aw al b0 b1 bw bl : List ℕ} (G : RowsGiven run rows k next a0 a1 aw al b0 b1 bw bl) where
  pub gave-marked : (am bm : List ℕ) → rows ≤ length am → MarksWritten run.size G.place k am bm → MarkedRowsGiven run rows k next a0 a1 aw al am b0 b1 bw bl bm
  gave-marked am bm l M = record { gave = G; roomy_marks = l; marked = rw (stands-size G.size G.place run G.stands) at M }

-- a marked listing is a listing
pub marked-lists : (run : Run) (rows k : ℕ) (next : Run) (a0 a1 aw al am b0 b1 bw bl bm : List ℕ)
    → ListMarkedPromise run rows a0 a1 aw al am next b0 b1 bw bl bm (Ok k) → ListPromise run rows a0 a1 aw al next b0 b1 bw bl (Ok k)
marked-lists run rows k next a0 a1 aw al am b0 b1 bw bl bm (inl x) = inl x.0
marked-lists run rows k next a0 a1 aw al am b0 b1 bw bl bm (inr x) = inr x.gave

-- what is refused of the lists is refused of the lists and the marks
pub refused-marked : {run : Run} {Short Marks : ℕ → Type 0} {k : ℕ} → RefusedList run Short k → RefusedList run (λ n. Short n ⊎ Marks n) k
refused-marked (inl r) = inl r
refused-marked (inr (e, s)) = inr (e, (s.0, s.1, s.2, inl s.3))
