-- A one-to-one map of the edges that carries the permutation φ to ψ: it keeps every period, and ψ has at least as many cycles and
-- fixed edges. The least edge of each cycle of φ goes to the least edge of the cycle that it is carried to.
use mathlib.Core.Path.{◌≡◌, refl, sym, ap, ◌∙◌}
use mathlib.Core.Bool.{true}
use Prim.Native.Nat.{ℕ, zero, suc, ◌≤◌}
use native.Mathlib.Omega.{arith}
use lib.Dec.{eqb}
use Rattle.lists.specs.Ranges.{OneTo}
use Rattle.lists.proofs.Tests.{eqb-eq, eqb-true}
use Rattle.invariants_cycles.specs.Cycles.{Permutation, iterate, SameCycle, least_of_cycle, cycles, period, fixed_points}
use Rattle.invariants_cycles.proofs.Cardinals.{card-le}
use Rattle.invariants_cycles.proofs.Cycles.{same-trans, same-sym, same_in, after-in, Period, period-only, period_is, lowest, lowest-same, lowest-least, least-below}

pub record Carried (n : ℕ) (φ ψ h : ℕ → ℕ) : Type 0 where
  pub into : (x : ℕ) → OneTo n x → OneTo n (h x)
  pub one_one : (x y : ℕ) → OneTo n x → OneTo n y → h x ≡ h y → x ≡ y
  pub carries : (x : ℕ) → OneTo n x → h (φ x) ≡ ψ (h x)

pub fixes-carried : {n : ℕ} {φ ψ h : ℕ → ℕ} → Carried n φ ψ h → fixed_points n φ ≤ fixed_points n ψ
unfolding fixed_points
fixes-carried {n} {φ} {ψ} {h} c =
    card-le n (λ x. eqb (φ x) x) n (λ x. eqb (ψ x) x) h
    (λ x e q. (c.into x e, eqb-eq _ _ (sym (c.carries x e) ∙ ap h (eqb-true _ _ q))))
    (λ x y i _ j _ q. c.one_one x y i j q)

module _ {n : ℕ} {φ ψ h : ℕ → ℕ} (p : Permutation n φ) (q : Permutation n ψ) (c : Carried n φ ψ h) where
  after-carried : (k x : ℕ) → OneTo n x → iterate ψ k (h x) ≡ h (iterate φ k x)
  after-carried zero x e = refl
  after-carried (suc k) x e = ap ψ (after-carried k x e) ∙ sym (c.carries (iterate φ k x) (after-in p k x e))

  same_back : (x y : ℕ) → OneTo n x → OneTo n y → SameCycle ψ (h x) (h y) → SameCycle φ x y
  same_back x y i j s = (s.0, c.one_one _ y (after-in p s.0 x i) j (sym (after-carried s.0 x i) ∙ s.1))

  pub period-carried : (x : ℕ) → OneTo n x → period n φ x ≡ period n ψ (h x)
  period-carried x e = period-only ψ (h x) _ _ there (period_is q (h x) (c.into x e))
    where
      here : Period φ x (period n φ x)
      here = period_is p x e

      there : Period ψ (h x) (period n φ x)
      there = record {
        some = here.some;
        back = after-carried (period n φ x) x e ∙ ap h here.back;
        first = λ j a b r. here.first j a b (c.one_one _ x (after-in p j x e) e (sym (after-carried j x e) ∙ r));
      }

  pub cycles-carried : cycles n φ ≤ cycles n ψ
  unfolding cycles
  cycles-carried = card-le n (least_of_cycle n φ) n (least_of_cycle n ψ) (λ x. lowest ψ (h x) n) into one_one
    where
      into : (x : ℕ) → OneTo n x → least_of_cycle n φ x ≡ true → OneTo n (lowest ψ (h x) n) × (least_of_cycle n ψ (lowest ψ (h x) n) ≡ true)
      into x e l = (same_in q (h x) _ (c.into x e) (lowest-same ψ (h x) n), lowest-least q (h x) (c.into x e))

      one_one : (x y : ℕ) → OneTo n x → least_of_cycle n φ x ≡ true → OneTo n y → least_of_cycle n φ y ≡ true → lowest ψ (h x) n ≡ lowest ψ (h y) n → x ≡ y
      one_one x y i k j l r =
          let there = same-trans ψ (h x) (lowest ψ (h x) n) (h y) (lowest-same ψ (h x) n) (rw r (same-sym q (h y) _ (c.into y j) (lowest-same ψ (h y) n))) in
          let s = same_back x y i j there in
          let a = least-below p x i k y s in
          let b = least-below p y j l x (same-sym p x y i s) in
          omega arith

-- all edges of a cycle have one period: φ carries itself
pub period-same : {n : ℕ} {φ : ℕ → ℕ} → Permutation n φ → (x y : ℕ) → OneTo n x → SameCycle φ x y → period n φ x ≡ period n φ y
period-same {n} {φ} p x y e s = rw s.1 at (steps s.0)
  where
    steps : (k : ℕ) → period n φ x ≡ period n φ (iterate φ k x)
    steps zero = refl
    steps (suc k) = steps k ∙ period-carried p p record { into = p.into; one_one = p.one_one; carries = λ x e. refl } (iterate φ k x) (after-in p k x e)
