-- The level of a permutation of n edges is at most 2^n. Each cycle is counted at its least edge: the lengths of the cycles add up to at
-- most n, their product is a common multiple of them, and a length k is at most 2^k.
use mathlib.Core.Path.{◌≡◌, refl, sym, ap, ◌∙◌}
use mathlib.Core.Logic.{◌≢◌, ◌⊎◌, inl, inr}
use mathlib.Core.Bool.{Bool, true, false, cond}
use mathlib.Core.List.{map}
use Prim.Native.Nat.{ℕ, zero, suc, ◌+◌, ◌*◌, ◌^◌, ◌≤◌, ◌<◌}
use native.Mathlib.Nat.{suc-add, mul_assoc, mul-le-mul, pow-le-pow_right}
use native.Mathlib.Omega.{arith, pow_step}
use lib.Dec.{eqb}
use Rattle.lists.specs.Ranges.{OneTo, card, sum, down}
use Rattle.lists.proofs.Tests.{same?, eqb_same, eqb-eq, eqb-ne}
use Rattle.lists.proofs.Ranges.{has-values, values-has, sum-zero, sum-add, sum-le}
use Rattle.invariants_multiples.specs.Multiples.{CommonMultiple, product, least_common_multiple}
use Rattle.invariants_multiples.proofs.Multiples.{Positive, product-multiple, product-positive}
use Rattle.invariants_cycles.specs.Cycles.{Permutation, iterate, SameCycle, least_of_cycle, period, cycle_lengths}
use Rattle.invariants_cycles.proofs.Cardinals.{card-le, card-all}
use Rattle.invariants_cycles.proofs.Cycles.{period_is, after-in, powers-differ, same_in, same-sym, same-trans, least-below, lowest, lowest-same, lowest-least}
use Rattle.invariants_cycles.proofs.Carried.{period-same}
use Rattle.invariants_cycles.proofs.Levels.{level_is}

-- ---- how many lie over a number

-- v is none of 1..n where it is above them, and otherwise one of them
never : (n v : ℕ) → n < v → sum n (λ x. cond (eqb v x) 1 0) ≡ 0
never n v h = sum-zero n (λ x. cond (eqb v x) 1 0) (λ x e. ap (λ b. cond b 1 0) (eqb-ne v x (omega arith)))

once : (n v : ℕ) → sum n (λ x. cond (eqb v x) 1 0) ≤ 1
once zero v = omega arith
once (suc n) v = go (same? v (suc n)) (once n v)
  where
    go : (v ≡ suc n) ⊎ (v ≢ suc n) → sum n (λ x. cond (eqb v x) 1 0) ≤ 1 → sum (suc n) (λ x. cond (eqb v x) 1 0) ≤ 1
    go (inl q) h = rw q (rw (eqb_same (suc n)) (let i = never n (suc n) (omega arith) in omega arith))
    go (inr q) h = rw (eqb-ne v (suc n) q) (omega arith)

-- of 1..n, as many as lie over each of 1..m, taken together, are at most n
fibres : (m n : ℕ) (h : ℕ → ℕ) → sum m (λ x. card n (λ y. eqb (h y) x)) ≤ n
fibres m zero h = let e = sum-zero m (λ x. card 0 (λ y. eqb (h y) x)) (λ x i. refl) in omega arith
fibres m (suc n) h =
    let a = once m (h (suc n)) in
    let b = fibres m n h in
    let e = sum-add m (λ x. cond (eqb (h (suc n)) x) 1 0) (λ x. card n (λ y. eqb (h y) x)) in
    omega arith

-- ---- powers of 2

below_power : (k : ℕ) → k < 2 ^ k
below_power zero = omega arith
below_power (suc k) = let h = below_power k in let e = pow_step 2 k in omega arith

power-add : (a b : ℕ) → 2 ^ (a + b) ≡ 2 ^ a * 2 ^ b
power-add zero b = ap (λ k. 2 ^ k) (none b) ∙ one (2 ^ b)
  where
    none : (b : ℕ) → 0 + b ≡ b
    none b = omega arith

    one : (x : ℕ) → x ≡ 2 ^ 0 * x
    one x = omega arith
power-add (suc a) b = rw (suc-add a b, pow_step 2 (a + b), pow_step 2 a, power-add a b) (sym (mul_assoc 2 (2 ^ a) (2 ^ b)))

-- ---- the cycles, each at its least edge

module _ {n : ℕ} {φ : ℕ → ℕ} (p : Permutation n φ) where
  abbrev home : ℕ → ℕ
  home y = lowest φ y n

  home-least : (x y : ℕ) → OneTo n x → least_of_cycle n φ x ≡ true → SameCycle φ x y → home y ≡ x
  home-least x y e l s =
      let d = same_in p x y e s in
      let there = same-trans φ x y (home y) s (lowest-same φ y n) in
      let a = least-below p x e l (home y) there in
      let b = least-below p (home y) (same_in p x (home y) e there) (lowest-least p y d) x (same-sym p x (home y) e there) in
      omega arith

  -- a cycle's length at its least edge, 0 or 1 elsewhere
  abbrev weight : ℕ → ℕ
  weight x = cond (least_of_cycle n φ x) (period n φ x) 0

  abbrev factor : ℕ → ℕ
  factor x = cond (least_of_cycle n φ x) (period n φ x) 1

  weight-fibre : (x : ℕ) → OneTo n x → weight x ≤ card n (λ y. eqb (home y) x)
  weight-fibre x e = go (least_of_cycle n φ x) refl
    where
      go : (b : Bool) → least_of_cycle n φ x ≡ b → cond b (period n φ x) 0 ≤ card n (λ y. eqb (home y) x)
      go true l =
          rw (card-all (period n φ x)) at
          (card-le (period n φ x) (λ k. true) n (λ y. eqb (home y) x) (λ k. iterate φ k x)
          (λ k _ _. (after-in p k x e, eqb-eq _ x (home-least x _ e l (k, refl))))
          (λ j k a _ b _ q. powers-differ p x e (period n φ x) (period_is p x e).first j k a b q))
      go false l = omega arith

  weights : sum n weight ≤ n
  weights = let a = sum-le n weight (λ x. card n (λ y. eqb (home y) x)) weight-fibre in let b = fibres n n home in omega arith

  factor-power : (x : ℕ) → factor x ≤ 2 ^ weight x
  factor-power x = go (least_of_cycle n φ x)
    where
      go : (b : Bool) → cond b (period n φ x) 1 ≤ 2 ^ cond b (period n φ x) 0
      go true = let h = below_power (period n φ x) in omega arith
      go false = omega arith

  product-power : (i : ℕ) → product (map factor (down i)) ≤ 2 ^ sum i weight
  product-power zero = omega arith
  product-power (suc i) = rw (power-add (weight (suc i)) (sum i weight)) (mul-le-mul (factor-power (suc i)) (product-power i))

  factors-positive : Positive (map factor (down n))
  factors-positive d h = let r = values-has n factor d h in rw r.2 (go (least_of_cycle n φ r.0) (period_is p r.0 r.1).some)
    where
      go : (b : Bool) {k : ℕ} → 1 ≤ k → 1 ≤ cond b k 1
      go true s = s
      go false s = omega arith

  factors-multiple : CommonMultiple (cycle_lengths n φ) (product (map factor (down n)))
  factors-multiple d h =
      let r = values-has n (period n φ) d h in
      let s = lowest-same φ r.0 n in
      let i = same_in p r.0 (home r.0) r.1 s in
      let q : factor (home r.0) ≡ period n φ (home r.0) = rw (lowest-least p r.0 r.1) in
      rw (r.2, period-same p r.0 (home r.0) r.1 s, ← q) (product-multiple (map factor (down n)) _ (has-values n factor (home r.0) i))

  pub level_bound : least_common_multiple (cycle_lengths n φ) ≤ 2 ^ n
  level_bound =
      let a = (level_is p).least _ (product-positive (map factor (down n)) factors-positive) factors-multiple in
      let b = product-power n in
      let w = pow-le-pow_right {n = 2} (omega arith) weights in
      omega arith
