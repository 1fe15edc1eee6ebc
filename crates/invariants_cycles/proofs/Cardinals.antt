-- Laws of `card`: how many of 1..n pass a test.
-- Two cardinals are compared by a one-to-one map from what passes the one test to what passes the other.
use mathlib.Core.Path.{◌≡◌, refl, sym, ap, ◌∙◌}
use mathlib.Core.Logic.{◌≢◌, ◌⊎◌, inl, inr}
use mathlib.Core.Bool.{Bool, true, false, true≢false, cond}
use mathlib.Core.List.{List, [], ◌∷◌}
use Prim.Native.Nat.{ℕ, zero, suc, ◌+◌, ◌≤◌}
use native.Mathlib.Omega.{arith}
use lib.ListN.{length}
use Rattle.lists.specs.Lists.{Has, Distinct}
use Rattle.lists.specs.Ranges.{OneTo, card}
use Rattle.lists.proofs.Tests.{same?}
use Rattle.lists.proofs.Lists.{pigeons}

pub card-all : (n : ℕ) → card n (λ x. true) ≡ n
card-all zero = refl
card-all (suc n) = let h = card-all n in omega arith

-- the values of h at those of 1..n that pass t
abbrev passing : ℕ → (ℕ → Bool) → (ℕ → ℕ) → List ℕ
passing zero t h = []
passing (suc n) t h = cond (t (suc n)) (h (suc n) ∷ passing n t h) (passing n t h)

module _ (t : ℕ → Bool) (h : ℕ → ℕ) where
  passing-length : (n : ℕ) → length (passing n t h) ≡ card n t
  passing-length zero = refl
  passing-length (suc n) = go (t (suc n)) (passing-length n)
    where
      go : (b : Bool) → length (passing n t h) ≡ card n t → length (cond b (h (suc n) ∷ passing n t h) (passing n t h)) ≡ cond b 1 0 + card n t
      go true e = omega arith
      go false e = omega arith

  passing-from : (n y : ℕ) → Has y (passing n t h) → (x : ℕ) × OneTo n x × (t x ≡ true) × (y ≡ h x)
  passing-from zero y m = absurd m
  passing-from (suc n) y m = go (t (suc n)) refl m (passing-from n y)
    where
      go : (b : Bool) → t (suc n) ≡ b → Has y (cond b (h (suc n) ∷ passing n t h) (passing n t h))
          → (Has y (passing n t h) → (x : ℕ) × OneTo n x × (t x ≡ true) × (y ≡ h x))
          → (x : ℕ) × OneTo (suc n) x × (t x ≡ true) × (y ≡ h x)
      go true e (inl q) k = (suc n, omega arith, e, q)
      go true e (inr m) k = let r = k m in let i = r.1 in (r.0, omega arith, r.2, r.3)
      go false e m k = let r = k m in let i = r.1 in (r.0, omega arith, r.2, r.3)

  passing-has : (n x : ℕ) → OneTo n x → t x ≡ true → Has (h x) (passing n t h)
  passing-has zero x e p = absurd (omega arith)
  passing-has (suc n) x e p = go (t (suc n)) refl (same? x (suc n)) (passing-has n x)
    where
      go : (b : Bool) → t (suc n) ≡ b → (x ≡ suc n) ⊎ (x ≢ suc n) → (OneTo n x → t x ≡ true → Has (h x) (passing n t h)) → Has (h x) (cond b (h (suc n) ∷ passing n t h) (passing n t h))
      go true q (inl s) k = inl (ap h s)
      go true q (inr s) k = inr (k (omega arith) p)
      go false q (inl s) k = absurd (true≢false (sym p ∙ ap t s ∙ q))
      go false q (inr s) k = k (omega arith) p

  passing-distinct : (n : ℕ) → ((x y : ℕ) → OneTo n x → t x ≡ true → OneTo n y → t y ≡ true → h x ≡ h y → x ≡ y) → Distinct (passing n t h)
  passing-distinct zero one_one = tt
  passing-distinct (suc n) one_one = go (t (suc n)) refl (passing-distinct n (λ x y i p j q. one_one x y (omega arith) p (omega arith) q))
    where
      go : (b : Bool) → t (suc n) ≡ b → Distinct (passing n t h) → Distinct (cond b (h (suc n) ∷ passing n t h) (passing n t h))
      go true e a = (new, a)
        where
          new : ¬ Has (h (suc n)) (passing n t h)
          new m =
              let r = passing-from n (h (suc n)) m in
              let i = r.1 in
              let s = one_one (suc n) r.0 (omega arith) e (omega arith) r.2 r.3 in
              omega arith
      go false e a = a

-- h leads from what passes t to what passes u, one-to-one
pub card-le : (n : ℕ) (t : ℕ → Bool) (m : ℕ) (u : ℕ → Bool) (h : ℕ → ℕ)
    → ((x : ℕ) → OneTo n x → t x ≡ true → OneTo m (h x) × (u (h x) ≡ true))
    → ((x y : ℕ) → OneTo n x → t x ≡ true → OneTo n y → t y ≡ true → h x ≡ h y → x ≡ y)
    → card n t ≤ card m u
card-le n t m u h into one_one =
    rw (passing-length t h n, passing-length u (λ x. x) m) at
    (pigeons (passing n t h) (passing m u (λ x. x)) (passing-distinct t h n one_one) inside)
  where
    inside : (y : ℕ) → Has y (passing n t h) → Has y (passing m u (λ x. x))
    inside y a =
        let r = passing-from t h n y a in
        let q = into r.0 r.1 r.2 in
        rw r.3 (passing-has u (λ x. x) m (h r.0) q.0 q.1)
