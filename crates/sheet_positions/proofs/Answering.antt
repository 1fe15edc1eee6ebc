-- Laws of answering a sheet: the cells one after another, and the length of a sheet told by its remainder.
--
--   Begun s a b i c d    the first i cells of the sheet s are answered: the lists a and b have become c and d
use mathlib.Core.Path.{◌≡◌, refl, sym, ap, ◌∙◌}
use mathlib.Core.Logic.{◌≢◌, inl, inr}
use mathlib.Core.List.{List, [], ◌∷◌, ◌++◌, map, map-append}
use Prim.Native.Nat.{ℕ, suc, ◌+◌, ◌-◌, ◌*◌, ◌/◌, ◌%◌, ◌≤◌, ◌<◌}
use native.Mathlib.Nat.{div-add-mod', mul-div_left, mul-mod_left}
use native.Mathlib.Omega.{arith}
use lib.ListN.{length, take, drop, set, length-map, length-set}
use Rattle.lists.specs.Overwriting.{overwrite}
use Rattle.lists.proofs.Overwriting.{over-one}
use Rattle.sheet.specs.declared.CellAnswer.{CellAnswer}
use Rattle.sheet.specs.Cells.{in_cells, cells, cell, refusals, positions}
use Rattle.sheet.specs.Promises.{Divided, ShortForCells}
use Rattle.sheet.proofs.Cells.{in-cells-length, in-cells-more, cells_are, cells_count}

-- one of the two lists of the answers to the first i cells
abbrev told : (CellAnswer → ℕ) → ℕ → List ℕ → List ℕ
told f i s = map f (map cell (in_cells i s))

told-length : (f : CellAnswer → ℕ) (i : ℕ) (s : List ℕ) → length (told f i s) ≡ i
told-length f i s = length-map (map cell (in_cells i s)) f ∙ length-map (in_cells i s) cell ∙ in-cells-length i s

told_more : (f : CellAnswer → ℕ) (i : ℕ) (s : List ℕ) → told f (suc i) s ≡ told f i s ++ (f (cell (take 52 (drop (i * 52) s))) ∷ [])
told_more f i s =
    ap (λ (cs : List (List ℕ)). map f (map cell cs)) (in-cells-more i s)
    ∙ ap (map f) (map-append cell (in_cells i s) (take 52 (drop (i * 52) s) ∷ []))
    ∙ map-append f (map cell (in_cells i s)) (cell (take 52 (drop (i * 52) s)) ∷ [])

abbrev refusal_of : CellAnswer → ℕ
refusal_of a = a.refusal

abbrev position_of : CellAnswer → ℕ
position_of a = a.position

pub record Begun (s a b : List ℕ) (i : ℕ) (c d : List ℕ) : Type 0 where
  pub first : c ≡ overwrite (told refusal_of i s) a
  pub second : d ≡ overwrite (told position_of i s) b
  pub first_long : length c ≡ length a
  pub second_long : length d ≡ length b

module _ (s a b : List ℕ) where
  pub begun-none : Begun s a b 0 a b
  begun-none = record { first = refl; second = refl; first_long = refl; second_long = refl }

  module _ (D : Divided s) (n : ¬ ShortForCells s a b) where
    quotient : length s / 52 ≡ D.0
    quotient = ap (λ (m : ℕ). m / 52) D.1 ∙ mul-div_left D.0 {n = 52} (omega arith)

    -- a cell that is one of them is there as a whole, and so is its place of both lists
    pub cell-within : (i : ℕ) → i < length s / 52 → (i * 52 + 52 ≤ length s) × (i < length a) × (i < length b)
    cell-within i h =
        let e = D.1 in
        let m = quotient in
        (omega arith, place (length a) (λ k. n (inl k)), place (length b) (λ k. n (inr k)))
      where
        place : (m : ℕ) → ¬ (m < length (cells s)) → i < m
        place m k = let e = cells_count s D.0 D.1 in let z = quotient in omega arith

    pub begun_more : (i : ℕ) (c d : List ℕ) → Begun s a b i c d → i < length s / 52 → (x : CellAnswer) → x ≡ cell (take (i * 52 + 52 - i * 52) (drop (i * 52) s))
        → Begun s a b (i + 1) (set c i x.refusal) (set d i x.position)
    begun_more i c d B h x e =
        let w = cell-within i h in
        let z : x ≡ cell (take 52 (drop (i * 52) s)) = e ∙ ap cell part in
        record {
          first = stored refusal_of a c B.first w.1 z;
          second = stored position_of b d B.second w.2 z;
          first_long = length-set c i x.refusal ∙ B.first_long;
          second_long = length-set d i x.position ∙ B.second_long;
        }
      where
        part : take (i * 52 + 52 - i * 52) (drop (i * 52) s) ≡ take 52 (drop (i * 52) s)
        part = let q : i * 52 + 52 - i * 52 ≡ 52 = omega arith in rw q refl

        stored : (f : CellAnswer → ℕ) (a c : List ℕ) → c ≡ overwrite (told f i s) a → i < length a → x ≡ cell (take 52 (drop (i * 52) s)) → set c i (f x) ≡ overwrite (told f (i + 1) s) a
        stored f a c q l z =
            rw (q, z) (over-one (told f i s) a i (f (cell (take 52 (drop (i * 52) s)))) (sym (told-length f i s)) l ∙ ap (λ (y : List ℕ). overwrite y a) (sym (told_more f i s)) ∙ ap (λ (m : ℕ). overwrite (told f m s) a) up)
          where
            up : suc i ≡ i + 1
            up = omega arith

    pub begun_all : (i : ℕ) (c d : List ℕ) → Begun s a b i c d → i ≡ length s / 52 → (c ≡ overwrite (refusals s) a) × (d ≡ overwrite (positions s) b)
    begun_all i c d B h =
        let q = sym (cells_are s i (let e = D.1 in let m = quotient in omega arith)) in
        (B.first ∙ ap (λ (cs : List (List ℕ)). overwrite (map refusal_of (map cell cs)) a) q, B.second ∙ ap (λ (cs : List (List ℕ)). overwrite (map position_of (map cell cs)) b) q)

-- ---- the length of a sheet

pub undivided : (s : List ℕ) → length s % 52 ≢ 0 → ¬ Divided s
undivided s n D = n (ap (λ (m : ℕ). m % 52) D.1 ∙ mul-mod_left D.0 52)

module _ (s : List ℕ) (e : length s % 52 ≡ 0) where
  whole : length s ≡ length s / 52 * 52
  whole = let d = div-add-mod' (length s) 52 in omega arith

  pub divided : Divided s
  divided = (length s / 52, whole)

  so-many : length (cells s) ≡ length s / 52
  so-many = cells_count s (length s / 52) whole

  pub short : (m : ℕ) → m < length s / 52 → m < length (cells s)
  short m h = rw so-many h

  pub not_short : (a b : List ℕ) → length s / 52 ≤ length a → length s / 52 ≤ length b → ¬ ShortForCells s a b
  not_short a b h k (inl l) = let z = so-many in omega arith
  not_short a b h k (inr l) = let z = so-many in omega arith
