-- Lists of numbers, as all layers use them. An edge is a number from 1 on, and a map of the edges 1..n is a list of n entries.
--
--   at s i          entry i of s, counted from 1; 0 where there is none
--   put s i v       s with v for entry i
--   tabulate f n    the list f 1, f 2, .., f n
--   Has x l         x stands in l;  has x l, the same as a test
--   Distinct l      no number stands twice in l
--   All P l         P holds of each element of l
--   find x l        the first place of x in l, from 0
--   remove_at d l    l without its element at place d, from 0
use Rattle.std.specs.Prelude.{◌≡◌, ◌⊎◌, Bool, true, false, cond, List, [], ◌∷◌, ◌++◌, ℕ, zero, suc, eqb, get_or, set}

abbrev pub at : List ℕ → ℕ → ℕ
at s zero = 0
at s (suc i) = get_or s i 0

abbrev pub put : List ℕ → ℕ → ℕ → List ℕ
put s zero v = s
put s (suc i) v = set s i v

abbrev pub tabulate : (ℕ → ℕ) → ℕ → List ℕ
tabulate f zero = []
tabulate f (suc n) = tabulate f n ++ (f (suc n) ∷ [])

abbrev pub Has : ℕ → List ℕ → Type 0
Has x [] = ⊥
Has x (y ∷ l) = (x ≡ y) ⊎ Has x l

abbrev pub Distinct : List ℕ → Type 0
Distinct [] = Unit {0}
Distinct (x ∷ l) = (¬ Has x l) × Distinct l

module _ {A : Type 0} where
  abbrev pub All : (A → Type 0) → List A → Type 0
  All P [] = Unit {0}
  All P (x ∷ xs) = P x × All P xs

abbrev pub has : ℕ → List ℕ → Bool
has x [] = false
has x (y ∷ l) = cond (eqb x y) true (has x l)

abbrev pub find : ℕ → List ℕ → ℕ
find x [] = 0
find x (y ∷ l) = cond (eqb x y) 0 (suc (find x l))

abbrev pub remove_at : ℕ → List ℕ → List ℕ
remove_at d [] = []
remove_at zero (x ∷ l) = l
remove_at (suc d) (x ∷ l) = x ∷ remove_at d l
