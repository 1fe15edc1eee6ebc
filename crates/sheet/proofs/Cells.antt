-- Laws of the cells of a sheet: how many there are, and the next one after the first k; and of `cell`, by the cases of its answer.
use mathlib.Core.Path.{◌≡◌, refl, ap, ◌∙◌}
use mathlib.Core.Bool.{Bool, true, false, cond}
use mathlib.Core.List.{List, [], ◌∷◌, ◌++◌}
use Prim.Native.Nat.{ℕ, zero, suc, ◌+◌, ◌*◌, ◌/◌, ◌≤◌, ◌<◌}
use native.Mathlib.Nat.{mul-div_left}
use native.Mathlib.Omega.{arith}
use lib.Dec.{leb}
use lib.ListN.{length, take, drop}
use lib.Seq.{drop-drop}
use Rattle.lists.specs.Lists.{at}
use Rattle.lists.proofs.Tests.{le-true, le-false}
use Rattle.words_reading.specs.Read.{read}
use Rattle.sheet.specs.Cells.{in_cells, cells, word_in, tail_of, blank, refused_with, located, cell}

pub in-cells-length : (k : ℕ) (s : List ℕ) → length (in_cells k s) ≡ k
in-cells-length zero s = refl
in-cells-length (suc k) s = ap suc (in-cells-length k (drop 52 s))

pub in-cells-more : (k : ℕ) (s : List ℕ) → in_cells (suc k) s ≡ in_cells k s ++ (take 52 (drop (k * 52) s) ∷ [])
in-cells-more zero s = refl
in-cells-more (suc k) s =
    let n : 52 + k * 52 ≡ suc k * 52 = omega arith in
    ap (λ (cs : List (List ℕ)). take 52 s ∷ cs) (in-cells-more k (drop 52 s) ∙ ap (λ (t : List ℕ). in_cells k (drop 52 s) ++ (take 52 t ∷ [])) (drop-drop (k * 52) 52 s ∙ ap (λ (m : ℕ). drop m s) n))

-- a sheet of k times 52 numbers
module _ (s : List ℕ) (k : ℕ) (e : length s ≡ k * 52) where
  so-many : length s / 52 ≡ k
  so-many = ap (λ (n : ℕ). n / 52) e ∙ mul-div_left k {n = 52} (omega arith)

  pub cells_are : cells s ≡ in_cells k s
  unfolding cells
  cells_are = ap (λ (n : ℕ). in_cells n s) so-many

  pub cells_count : length (cells s) ≡ k
  cells_count = ap length cells_are ∙ in-cells-length k s

-- ---- the answer to a cell

pub either_way : {A : Type 0} (b : Bool) (x : A) → cond b x x ≡ x
either_way true x = refl
either_way false x = refl

module _ (c : List ℕ) where
  pub cell-long : 51 < at c 1 → cell c ≡ refused_with 61
  unfolding cell
  cell-long h = rw (le-false (at c 1) 51 h)

  pub cell-marked : blank (tail_of c) ≡ false → cell c ≡ refused_with 61
  unfolding cell
  cell-marked b = rw b (either_way (leb (at c 1) 51) (refused_with 61))

  pub cell-read : at c 1 ≤ 51 → blank (tail_of c) ≡ true → cell c ≡ located (read (word_in c))
  unfolding cell
  cell-read h b = rw (le-true (at c 1) 51 h, b)
