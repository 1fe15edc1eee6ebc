-- Words of a size up to a bound, said by the stack's height and the labels left alone: like `Fits` and `Word` (crate words, Shape), but labels may be
-- left over where the word ends.
--
--   FitsWithin h f items    read at a stack of height h, the items empty the stack with at most f labels
--   WordWithin n w          w spells a diagram of a size 1..n
--   labels_of w              how many labels the word w gives: the size of its diagram, where it spells one
use Rattle.std.specs.Prelude.{ℕ, zero, suc, ◌+◌, ◌<◌, List, [], ◌∷◌}
use Rattle.words.specs.Shape.{pre, less1, less3}

abbrev pub FitsWithin : ℕ → ℕ → List ℕ → Type 0
FitsWithin zero f [] = Unit {0}
FitsWithin (suc h) f [] = ⊥
FitsWithin zero f (x ∷ w) = ⊥
FitsWithin (suc h) f (zero ∷ w) = FitsWithin h f w
FitsWithin (suc h) f (suc zero ∷ w) = less3 f ⊥ (λ g. FitsWithin (suc (suc h)) g w)
FitsWithin (suc h) f (suc (suc zero) ∷ w) = less1 f ⊥ (λ g. FitsWithin h g w)
FitsWithin (suc h) f (suc (suc (suc d)) ∷ w) = (d < h) × FitsWithin (pre h) f w

abbrev pub WordWithin : ℕ → List ℕ → Type 0
WordWithin n [] = ⊥
WordWithin n (zero ∷ w) = less1 n ⊥ (λ f. FitsWithin 1 f w)
WordWithin n (suc zero ∷ w) = less3 n ⊥ (λ f. FitsWithin 3 f w)
WordWithin n (suc (suc x) ∷ w) = ⊥

-- F gives three labels and B one
abbrev pub item_labels : ℕ → ℕ
item_labels zero = 0
item_labels (suc zero) = 3
item_labels (suc (suc zero)) = 1
item_labels (suc (suc (suc d))) = 0

-- U gives one label and T three
abbrev pub first_labels : ℕ → ℕ
first_labels zero = 1
first_labels (suc zero) = 3
first_labels (suc (suc x)) = 0

abbrev pub items_labels : List ℕ → ℕ
items_labels [] = 0
items_labels (x ∷ w) = item_labels x + items_labels w

abbrev pub labels_of : List ℕ → ℕ
labels_of [] = 0
labels_of (x ∷ w) = first_labels x + items_labels w
