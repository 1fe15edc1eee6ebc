-- Counting along the tree of the words of the single list: a state, a stack of height h with at most f labels free, is a branch where labels are
-- pending, and the end of a word where none is. Each word's end weighs a and each branch b, so that (1, 0) counts words and (0, 1) branches.
--
--   weight a b h f             the weight of a state and of all that comes after it
--   weight_f .., weight_b ..     the weight of what comes after F, and after B, where h labels are pending besides the one that is popped
--   passed a b h f w           the weight met from a state on, in dictionary order, up to and including the end of the way to go on w
--   passed_word a b n w         the same for a word w of the single list of bound n; the empty beginning weighs nothing
--   whole_weight a b n          the weight of the whole list
use Rattle.std.specs.Prelude.{ℕ, zero, suc, ◌+◌, ◌*◌, List, [], ◌∷◌}
use Rattle.words.specs.Shape.{pre, less1, less3}

module _ (a b : ℕ) where
  -- m bounds the items to come; h + f is enough
  unfoldable pub weight_in : ℕ → ℕ → ℕ → ℕ
  weight_in zero zero f = a
  weight_in zero (suc h) f = 0
  weight_in (suc m) zero f = a
  weight_in (suc m) (suc h) f =
      b + (weight_in m h f + (less3 f 0 (λ g. weight_in m (suc (suc h)) g) + (less1 f 0 (λ g. weight_in m h g) + h * weight_in m (pre h) f)))

  unfoldable pub weight : ℕ → ℕ → ℕ
  weight h f = weight_in (h + f) h f

  unfoldable pub weight_f : ℕ → ℕ → ℕ
  weight_f h f = less3 f 0 (λ g. weight (suc (suc h)) g)

  unfoldable pub weight_b : ℕ → ℕ → ℕ
  weight_b h f = less1 f 0 (λ g. weight h g)

  unfoldable pub passed : ℕ → ℕ → List ℕ → ℕ
  passed h f [] = a
  passed zero f (x ∷ w) = 0
  passed (suc h) f (zero ∷ w) = b + passed h f w
  passed (suc h) f (suc zero ∷ w) = b + (weight h f + less3 f 0 (λ g. passed (suc (suc h)) g w))
  passed (suc h) f (suc (suc zero) ∷ w) = b + (weight h f + (weight_f h f + less1 f 0 (λ g. passed h g w)))
  passed (suc h) f (suc (suc (suc d)) ∷ w) = b + (weight h f + (weight_f h f + (weight_b h f + (d * weight (pre h) f + passed (pre h) f w))))

  unfoldable pub passed_word : ℕ → List ℕ → ℕ
  passed_word n [] = 0
  passed_word n (zero ∷ w) = less1 n 0 (λ f. passed 1 f w)
  passed_word n (suc zero ∷ w) = less1 n 0 (λ f. weight 1 f) + less3 n 0 (λ f. passed 3 f w)
  passed_word n (suc (suc x) ∷ w) = 0

  unfoldable pub whole_weight : ℕ → ℕ
  whole_weight n = less1 n 0 (λ f. weight 1 f) + less3 n 0 (λ f. weight 3 f)
