-- Laws of cycles. Every edge comes back after at most n steps, since its powers would else be more than n different edges;
-- so a cycle can be run through from each of its edges, its period is the length of a walk round it, and it has one least edge.
use mathlib.Core.Path.{◌≡◌, refl, sym, ap, ◌∙◌}
use mathlib.Core.Logic.{◌≢◌, ◌⊎◌, inl, inr}
use mathlib.Core.Bool.{Bool, true, false, true≢false}
use Prim.Native.Nat.{ℕ, zero, suc, ◌+◌, ◌-◌, ◌≤◌, ◌<◌, min}
use native.Mathlib.Nat.{suc-add}
use native.Mathlib.Omega.{arith}
use lib.Dec.{eqb, leb}
use Rattle.lists.specs.Ranges.{OneTo, first_passing}
use Rattle.lists.proofs.Tests.{same?, lt?, eqb-eq, eqb-true, le-true, leb-true}
use Rattle.lists.proofs.Ranges.{every_true, true-every, card-most}
use Rattle.lists.proofs.Searches.{First, seek-first}
use Rattle.diagrams.specs.Diagram.{Maps}
use Rattle.diagrams.proofs.Diagrams.{black-one-one, white-one-one}
use Rattle.invariants_cycles.specs.Cycles.{Permutation, iterate, SameCycle, least_of_cycle, cycles, period, fixed_points, cusp_map}
use Rattle.invariants_cycles.proofs.Cardinals.{card-le, card-all}

-- ---- bounds

pub cycles-most : (n : ℕ) (φ : ℕ → ℕ) → cycles n φ ≤ n
unfolding cycles
cycles-most n φ = card-most n (least_of_cycle n φ)

pub fixes-most : (n : ℕ) (g : ℕ → ℕ) → fixed_points n g ≤ n
unfolding fixed_points
fixes-most n g = card-most n (λ x. eqb (g x) x)

-- ---- powers

after-step : (φ : ℕ → ℕ) (k x : ℕ) → iterate φ k (φ x) ≡ φ (iterate φ k x)
after-step φ zero x = refl
after-step φ (suc k) x = ap φ (after-step φ k x)

pub after-add : (φ : ℕ → ℕ) (a b x : ℕ) → iterate φ (a + b) x ≡ iterate φ a (iterate φ b x)
after-add φ zero b x = ap (λ i. iterate φ i x) (none b)
  where
    none : (b : ℕ) → 0 + b ≡ b
    none b = omega arith
after-add φ (suc a) b x = rw (suc-add a b) (ap φ (after-add φ a b x))

pub same-trans : (φ : ℕ → ℕ) (x y z : ℕ) → SameCycle φ x y → SameCycle φ y z → SameCycle φ x z
same-trans φ x y z a b = (b.0 + a.0, after-add φ b.0 a.0 x ∙ ap (iterate φ b.0) a.1 ∙ b.1)

-- the least of x and its first m powers: for m = n, the least edge of x's cycle
pub lowest : (ℕ → ℕ) → ℕ → ℕ → ℕ
lowest φ x zero = x
lowest φ x (suc m) = min (iterate φ (suc m) x) (lowest φ x m)

pub lowest-same : (φ : ℕ → ℕ) (x m : ℕ) → SameCycle φ x (lowest φ x m)
unfolding lowest
lowest-same φ x zero = (0, refl)
lowest-same φ x (suc m) = go (lt? (iterate φ (suc m) x) (lowest φ x m)) (lowest-same φ x m)
  where
    go : (iterate φ (suc m) x < lowest φ x m) ⊎ (lowest φ x m ≤ iterate φ (suc m) x) → SameCycle φ x (lowest φ x m) → SameCycle φ x (min (iterate φ (suc m) x) (lowest φ x m))
    go (inl h) s = (suc m, omega arith)
    go (inr h) s = let q = s.1 in (s.0, omega arith)

lowest-below : (φ : ℕ → ℕ) (x m k : ℕ) → OneTo m k → lowest φ x m ≤ iterate φ k x
unfolding lowest
lowest-below φ x zero k i = absurd (omega arith)
lowest-below φ x (suc m) k i = go (same? k (suc m)) (lowest-below φ x m k)
  where
    go : (k ≡ suc m) ⊎ (k ≢ suc m) → (OneTo m k → lowest φ x m ≤ iterate φ k x) → min (iterate φ (suc m) x) (lowest φ x m) ≤ iterate φ k x
    go (inl q) h = rw q (omega arith)
    go (inr q) h = let z = h (omega arith) in omega arith

-- ---- the period

-- the length of x's cycle is l
pub record Period (φ : ℕ → ℕ) (x l : ℕ) : Type 0 where
  pub some : 1 ≤ l
  pub back : iterate φ l x ≡ x
  pub first : (j : ℕ) → 1 ≤ j → j < l → iterate φ j x ≢ x

pub period-only : (φ : ℕ → ℕ) (x l m : ℕ) → Period φ x l → Period φ x m → l ≡ m
period-only φ x l m p q = go (lt? l m) (lt? m l)
  where
    go : (l < m) ⊎ (m ≤ l) → (m < l) ⊎ (l ≤ m) → l ≡ m
    go (inl h) k = absurd (q.first l p.some h p.back)
    go (inr h) (inl k) = absurd (p.first m q.some k q.back)
    go (inr h) (inr k) = omega arith

module _ {n : ℕ} {φ : ℕ → ℕ} (p : Permutation n φ) where
  pub after-in : (k x : ℕ) → OneTo n x → OneTo n (iterate φ k x)
  after-in zero x e = e
  after-in (suc k) x e = p.into _ (after-in k x e)

  pub same_in : (x y : ℕ) → OneTo n x → SameCycle φ x y → OneTo n y
  same_in x y e s = rw s.1 at (after-in s.0 x e)

  after-one-one : (k x y : ℕ) → OneTo n x → OneTo n y → iterate φ k x ≡ iterate φ k y → x ≡ y
  after-one-one zero x y i j q = q
  after-one-one (suc k) x y i j q = after-one-one k x y i j (p.one_one _ _ (after-in k x i) (after-in k y j) q)

  module _ (x : ℕ) (e : OneTo n x) where
    -- equal powers i and i + d
    return-by : (i d : ℕ) → iterate φ i x ≡ iterate φ (i + d) x → iterate φ d x ≡ x
    return-by i d q = sym (after-one-one i x (iterate φ d x) e (after-in d x e) (q ∙ after-add φ i d x))

    -- the first m powers are different where none before the m-th leads back to x
    pub powers-differ : (m : ℕ) → ((j : ℕ) → 1 ≤ j → j < m → iterate φ j x ≢ x) → (j k : ℕ) → OneTo m j → OneTo m k → iterate φ j x ≡ iterate φ k x → j ≡ k
    powers-differ m away j k a b q = go (lt? j k) (lt? k j)
      where
        later : (j k : ℕ) → OneTo m j → OneTo m k → j < k → iterate φ j x ≡ iterate φ k x → ⊥
        later j k a b l q =
            let s : k ≡ j + (k - j) = omega arith in
            away (k - j) (omega arith) (omega arith) (return-by j (k - j) (q ∙ ap (λ i. iterate φ i x) s))

        go : (j < k) ⊎ (k ≤ j) → (k < j) ⊎ (j ≤ k) → j ≡ k
        go (inl l) h = absurd (later j k a b l q)
        go (inr l) (inl h) = absurd (later k j b a h (sym q))
        go (inr l) (inr h) = omega arith

    abbrev returns : ℕ → Bool
    returns k = eqb (iterate φ k x) x

    some-return : ((j : ℕ) → 1 ≤ j → j < 1 + n → returns j ≡ false) → ⊥
    some-return never =
        let h = rw (card-all (suc n), card-all n) at
        (card-le (suc n) (λ k. true) n (λ k. true) (λ k. iterate φ k x) (λ k i _. (after-in k x e, refl)) (λ j k a _ b _ q. powers-differ (suc n) away j k a b q)) in
        omega arith
      where
        away : (j : ℕ) → 1 ≤ j → j < suc n → iterate φ j x ≢ x
        away j a b q = true≢false (sym (eqb-eq _ x q) ∙ never j a (omega arith))

    period-first : First n returns 1 (period n φ x)
    unfolding period
    period-first = go (seek-first n returns 1)
      where
        go : First n returns 1 (first_passing n returns 1) ⊎ ((j : ℕ) → 1 ≤ j → j < 1 + n → returns j ≡ false) → First n returns 1 (first_passing n returns 1)
        go (inl f) = f
        go (inr never) = absurd (some-return never)

    pub period_is : Period φ x (period n φ x)
    period_is = record {
      some = period-first.low;
      back = eqb-true _ _ period-first.hit;
      first = λ j a b q. true≢false (sym (eqb-eq _ x q) ∙ period-first.before j a b);
    }

    pub period-most : period n φ x ≤ n
    period-most = let h = period-first.high in omega arith

    -- every power is one of the first ones
    pub after-period : (k : ℕ) → (j : ℕ) × OneTo (period n φ x) j × (iterate φ k x ≡ iterate φ j x)
    after-period zero = let h = period_is.some in (period n φ x, omega arith, sym period_is.back)
    after-period (suc k) = go (after-period k) (same? (after-period k).0 (period n φ x))
      where
        go : (r : (j : ℕ) × OneTo (period n φ x) j × (iterate φ k x ≡ iterate φ j x)) → (r.0 ≡ period n φ x) ⊎ (r.0 ≢ period n φ x)
            → (j : ℕ) × OneTo (period n φ x) j × (iterate φ (suc k) x ≡ iterate φ j x)
        go r (inl q) = let h = period_is.some in (1, omega arith, ap φ (r.2 ∙ ap (λ i. iterate φ i x) q ∙ period_is.back))
        go r (inr q) = let h = r.1 in (suc r.0, omega arith, ap φ r.2)

    -- what lies in x's cycle is one of the first n powers
    same_after : (y : ℕ) → SameCycle φ x y → (j : ℕ) × OneTo n j × (iterate φ j x ≡ y)
    same_after y s = let r = after-period s.0 in let h = r.1 in let m = period-most in (r.0, omega arith, sym r.2 ∙ s.1)

    step_back : SameCycle φ (φ x) x
    step_back = go (period n φ x) period_is
      where
        go : (l : ℕ) → Period φ x l → SameCycle φ (φ x) x
        go zero h = let z = h.some in absurd (omega arith)
        go (suc l) h = (l, after-step φ l x ∙ h.back)

    -- the least edge of a cycle

    pub least-below : least_of_cycle n φ x ≡ true → (y : ℕ) → SameCycle φ x y → x ≤ y
    unfolding least_of_cycle
    least-below l y s = let r = same_after y s in rw r.2 at (leb-true x (iterate φ r.0 x) (every_true n (λ k. leb x (iterate φ k x)) l r.0 r.1))

    pub below-least : ((y : ℕ) → SameCycle φ x y → x ≤ y) → least_of_cycle n φ x ≡ true
    unfolding least_of_cycle
    below-least h = true-every n (λ k. leb x (iterate φ k x)) (λ k i. le-true x (iterate φ k x) (h _ (k, refl)))

    pub not_least : (y : ℕ) → SameCycle φ x y → y < x → least_of_cycle n φ x ≡ false
    not_least y s h = go (least_of_cycle n φ x) refl
      where
        go : (b : Bool) → least_of_cycle n φ x ≡ b → b ≡ false
        go true l = let z = least-below l y s in absurd (omega arith)
        go false l = refl

  pub same-sym : (x y : ℕ) → OneTo n x → SameCycle φ x y → SameCycle φ y x
  same-sym x y e s = rw s.1 at (back s.0)
    where
      back : (k : ℕ) → SameCycle φ (iterate φ k x) x
      back zero = (0, refl)
      back (suc k) = same-trans φ _ (iterate φ k x) x (step_back (iterate φ k x) (after-in k x e)) (back k)

  pub lowest-least : (x : ℕ) → OneTo n x → least_of_cycle n φ (lowest φ x n) ≡ true
  lowest-least x e = below-least (lowest φ x n) (same_in x _ e (lowest-same φ x n)) below
    where
      below : (y : ℕ) → SameCycle φ (lowest φ x n) y → lowest φ x n ≤ y
      below y s = let r = same_after x e y (same-trans φ x (lowest φ x n) y (lowest-same φ x n) s) in rw r.2 at (lowest-below φ x n r.0 r.1)

-- ---- a diagram's permutation

-- i to s0(s1(i)) is a permutation of a diagram's edges
pub around-perm : {n : ℕ} {f g : ℕ → ℕ} → Maps n f g → Permutation n (cusp_map f g)
around-perm {g} m = record {
  into = λ x e. m.black_in (g x) (m.white_in x e);
  one_one = λ x y i j q. white-one-one m x y i j (black-one-one m (g x) (g y) (m.white_in x i) (m.white_in y j) q);
}
