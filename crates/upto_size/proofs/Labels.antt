-- Counting the labels of a word item by item.
use mathlib.Core.Path.{◌≡◌, refl}
use mathlib.Core.Logic.{◌≢◌}
use mathlib.Core.List.{List, [], ◌∷◌}
use Prim.Native.Nat.{ℕ, zero, suc, ◌+◌, ◌*◌, ◌≤◌, ◌<◌}
use native.Mathlib.Numerals.{add-one}
use native.Mathlib.Omega.{arith}
use lib.ListN.{length, get_or, drop, drop_of_length-le}
use lib.Seq.{drop-cons}
use Rattle.upto_words.specs.Within.{first_labels, item_labels, items_labels, labels_of}

-- ---- the clauses of the definitions that the code's last returns stand for

pub first-none : (x : ℕ) → x ≢ 0 → x ≢ 1 → 0 ≡ first_labels x
first-none zero a b = absurd (a refl)
first-none (suc zero) a b = absurd (b refl)
first-none (suc (suc x)) a b = refl

pub item-none : (x : ℕ) → x ≢ 1 → x ≢ 2 → 0 ≡ item_labels x
item-none zero a b = refl
item-none (suc zero) a b = absurd (a refl)
item-none (suc (suc zero)) a b = absurd (b refl)
item-none (suc (suc (suc d))) a b = refl

-- ---- no item gives more than three

first-few : (x : ℕ) → first_labels x ≤ 3
first-few zero = omega arith
first-few (suc zero) = omega arith
first-few (suc (suc x)) = omega arith

item-few : (x : ℕ) → item_labels x ≤ 3
item-few zero = omega arith
item-few (suc zero) = omega arith
item-few (suc (suc zero)) = omega arith
item-few (suc (suc (suc d))) = omega arith

-- ---- the count

-- the first i items of w give that many labels
pub record Counted (w : List ℕ) (i labels : ℕ) : Type 0 where
  pub within : i ≤ length w
  pub few : labels ≤ 3 * i
  pub sum : labels + items_labels (drop i w) ≡ labels_of w

pub counted-empty : (w : List ℕ) → length w ≡ 0 → 0 ≡ labels_of w
counted-empty [] z = refl
counted-empty (x ∷ w) z = absurd (omega arith)

pub counted-first : (w : List ℕ) (labels : ℕ) → length w ≢ 0 → labels ≡ first_labels (get_or w 0 0) → Counted w 1 labels
counted-first [] labels z e = absurd (z refl)
counted-first (x ∷ w) labels z e = record { within = omega arith; few = let l = first-few x in omega arith; sum = rw e }

module _ (w : List ℕ) (i labels : ℕ) (C : Counted w i labels) where
  pub counted_next : (g : ℕ) → i < length w → g ≡ item_labels (get_or w i 0) → (labels + g ≤ 3 * (i + 1)) × Counted w (i + 1) (labels + g)
  counted_next g k e = (more, record { within = omega arith; few = more; sum = rw add-one sum })
    where
      more : labels + g ≤ 3 * (i + 1)
      more = let l = item-few (get_or w i 0) in let f = C.few in omega arith

      sum : (labels + g) + items_labels (drop (suc i) w) ≡ labels_of w
      sum = let s = rw (drop-cons w i 0 k) at C.sum in omega arith

  pub counted-all : length w ≤ i → labels ≡ labels_of w
  counted-all k = let s = rw (drop_of_length-le w k) at C.sum in omega arith
