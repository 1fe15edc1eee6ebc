-- Branches are fewer than twice the words: at each branch there are two or more ways on, or a single label is pending, and then a word ends after W.
use Prim.Native.Nat.{ℕ, zero, suc, ◌+◌, ◌*◌, ◌≤◌}
use mathlib.Core.Path.{◌≡◌, refl}
use native.Mathlib.Nat.{mul-le-mul_left}
use native.Mathlib.Omega.{arith}
use Rattle.words.specs.Shape.{pre, less1, less3}
use Rattle.listing.proofs.Completions.{pre-le}
use Rattle.upto_weights.specs.Weights.{weight, weight_f, weight_b, whole_weight}
use Rattle.upto_weights.proofs.Rule.{weight-0, weight-suc}

less1-twice : (f : ℕ) (k l : ℕ → ℕ) → ((g : ℕ) → f ≡ suc g → k g + 1 ≤ 2 * l g) → less1 f 0 k ≤ 2 * less1 f 0 l
less1-twice zero k l e = omega arith
less1-twice (suc f) k l e = let i = e f refl in omega arith

less3-twice : (f : ℕ) (k l : ℕ → ℕ) → ((g : ℕ) → f ≡ suc (suc (suc g)) → k g + 1 ≤ 2 * l g) → less3 f 0 k ≤ 2 * less3 f 0 l
less3-twice zero k l e = omega arith
less3-twice (suc zero) k l e = omega arith
less3-twice (suc (suc zero)) k l e = omega arith
less3-twice (suc (suc (suc f))) k l e = let i = e f refl in omega arith

-- a branch, by the states after it. The word ends after W where a single label is pending, and else there is a J besides W.
branch : (h f : ℕ) → weight 0 1 h f + 1 ≤ 2 * weight 1 0 h f → weight_f 0 1 h f ≤ 2 * weight_f 1 0 h f → weight_b 0 1 h f ≤ 2 * weight_b 1 0 h f
    → weight 0 1 (pre h) f + 1 ≤ 2 * weight 1 0 (pre h) f → weight 0 1 (suc h) f + 1 ≤ 2 * weight 1 0 (suc h) f
branch zero f w x y j = omega (arith, weight-0 0 1 f, weight-0 1 0 f, weight-suc 0 1 0 f, weight-suc 1 0 0 f)
branch (suc h) f w x y j = omega (arith, mul-le-mul_left (suc h) j, weight-suc 0 1 (suc h) f, weight-suc 1 0 (suc h) f)

-- m bounds the items to come
twice : (m h f : ℕ) → h + f ≤ m → weight 0 1 h f + 1 ≤ 2 * weight 1 0 h f
unfolding weight_f weight_b
twice zero zero f l = omega (arith, weight-0 0 1 f, weight-0 1 0 f)
twice zero (suc h) f l = absurd (omega arith)
twice (suc m) zero f l = omega (arith, weight-0 0 1 f, weight-0 1 0 f)
twice (suc m) (suc h) f l =
    branch h f (twice m h f (omega arith)) (less3-twice f _ _ (λ g q. twice m (suc (suc h)) g (omega arith))) (less1-twice f _ _ (λ g q. twice m h g (omega arith)))
    (let i = pre-le h in twice m (pre h) f (omega arith))

pub branches-words : (h f : ℕ) → weight 0 1 (suc h) f + 1 ≤ 2 * weight 1 0 (suc h) f
branches-words h f = twice (suc h + f) (suc h) f (omega arith)

pub visits-bound : (n : ℕ) → 1 ≤ n → whole_weight 0 1 n + 1 ≤ 2 * whole_weight 1 0 n
unfolding whole_weight
visits-bound zero l = absurd (omega arith)
visits-bound (suc n) l = let t = less3-twice (suc n) (λ f. weight 0 1 3 f) (λ f. weight 1 0 3 f) (λ f q. branches-words 2 f) in let u = branches-words 0 n in omega arith
