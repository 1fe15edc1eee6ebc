-- The rule of the weights: what a state weighs by the states after it. Any bound from h + f on gives the same weight.
use mathlib.Core.Path.{◌≡◌, refl, sym, ◌∙◌, ap}
use Prim.Native.Nat.{ℕ, zero, suc, ◌+◌, ◌*◌, ◌≤◌}
use native.Mathlib.Omega.{arith}
use Rattle.words.specs.Shape.{pre}
use Rattle.listing.proofs.Completions.{less1-same, less3-same, pre-le, sum}
use Rattle.upto_weights.specs.Weights.{weight_in, weight, weight_f, weight_b}

module _ (a b : ℕ) where
  in-0 : (m f : ℕ) → weight_in a b m 0 f ≡ a
  unfolding weight_in
  in-0 zero f = refl
  in-0 (suc m) f = refl

  in-same : (m k h f : ℕ) → h + f ≤ m → h + f ≤ k → weight_in a b m h f ≡ weight_in a b k h f
  unfolding weight_in
  in-same zero k zero f i j = sym (in-0 k f)
  in-same zero k (suc h) f i j = absurd (omega arith)
  in-same (suc m) k zero f i j = sym (in-0 k f)
  in-same (suc m) zero (suc h) f i j = absurd (omega arith)
  in-same (suc m) (suc k) (suc h) f i j =
      ap (λ (x : ℕ). b + x)
      (sum h _ _ _ _ _ _ _ _ (in-same m k h f (omega arith) (omega arith)) (less3-same f 0 _ _ (λ g q. in-same m k (suc (suc h)) g (omega arith) (omega arith)))
      (less1-same f 0 _ _ (λ g q. in-same m k h g (omega arith) (omega arith))) (let l = pre-le h in in-same m k (pre h) f (omega arith) (omega arith)))

  by : (m h f : ℕ) → h + f ≤ m → weight_in a b m h f ≡ weight a b h f
  unfolding weight
  by m h f l = in-same m (h + f) h f l (omega arith)

  -- a word ends here
  pub weight-0 : (f : ℕ) → weight a b 0 f ≡ a
  unfolding weight
  weight-0 f = in-0 (0 + f) f

  -- a branch: W, F, B, and a J for each label that is pending besides the top
  pub weight-suc : (h f : ℕ) → weight a b (suc h) f ≡ b + (weight a b h f + (weight_f a b h f + (weight_b a b h f + h * weight a b (pre h) f)))
  unfolding weight_in weight_f weight_b
  weight-suc h f =
      sym (by (suc m) (suc h) f (omega arith))
      ∙ ap (λ (x : ℕ). b + x)
      (sum h _ _ _ _ _ _ _ _ (by m h f (omega arith)) (less3-same f 0 _ _ (λ g q. by m (suc (suc h)) g (omega arith))) (less1-same f 0 _ _ (λ g q. by m h g (omega arith)))
      (let i = pre-le h in by m (pre h) f (omega arith)))
    where
      m : ℕ
      m = suc (h + f)
