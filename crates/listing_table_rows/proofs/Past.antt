-- The places of a match: the number at one of them, and a place that is none of them and so lies past them, or where its list holds 0.
use mathlib.Core.Path.{◌≡◌, refl, sym, ap}
use mathlib.Core.Logic.{◌⊎◌, inl, inr}
use mathlib.Core.Bool.{Bool, true, false, cond}
use mathlib.Core.List.{List}
use Prim.Native.Nat.{ℕ, zero, suc, ◌+◌, ◌≤◌, ◌<◌}
use native.Mathlib.Omega.{arith}
use lib.Dec.{eqb}
use lib.ListN.{length, get_or, get_or-eq_default}
use Rattle.lists.proofs.Tests.{eqb-true, lt?}

-- the number at f, where f is the place k
pub placed : (row : List ℕ) {f k : ℕ} → f ≡ k → get_or row k 0 ≡ get_or row f 0
placed row e = ap (λ (j : ℕ). get_or row j 0) (sym e)

-- f is none of a, a + 1, .., a + k - 1
abbrev None : ℕ → ℕ → ℕ → Type 0
None a zero f = Unit {0}
None a (suc k) f = None a k f × (f ≡ a + k → ⊥)

pub above : (a k f : ℕ) → a ≤ f → None a k f → a + k ≤ f
above a zero f l n = omega arith
above a (suc k) f l n = let i = above a k f l n.0 in omega (arith, n.1)

pub past : {A : Type 0} (d : A) (row : List A) (f : ℕ) → None 0 (length row) f → get_or row f d ≡ d
past d row f n = get_or-eq_default row d (let i = above 0 (length row) f (omega arith) n in omega arith)

-- f is none of the places 0, 1, .., k - 1 where the row holds another number than 0
abbrev Missed : List ℕ → ℕ → ℕ → Type 0
Missed row zero f = Unit {0}
Missed row (suc k) f = cond (eqb (get_or row k 0) 0) (Missed row k f) (Missed row k f × (f ≡ k → ⊥))

module _ (row : List ℕ) (f : ℕ) where
  below : (k : ℕ) → Missed row k f → f < k → get_or row f 0 ≡ 0
  below zero m l = absurd (omega arith)
  below (suc k) m l = go (eqb (get_or row k 0) 0) refl (λ n i. below k n i) m
    where
      at_last : eqb (get_or row k 0) 0 ≡ true → (f < k → get_or row f 0 ≡ 0) → (f < k) ⊎ (k ≤ f) → get_or row f 0 ≡ 0
      at_last e rec (inl i) = rec i
      at_last e rec (inr i) = let same : f ≡ k = omega arith in rw same (eqb-true (get_or row k 0) 0 e)

      go : (b : Bool) → eqb (get_or row k 0) 0 ≡ b → (Missed row k f → f < k → get_or row f 0 ≡ 0)
          → cond b (Missed row k f) (Missed row k f × (f ≡ k → ⊥)) → get_or row f 0 ≡ 0
      go true e rec m = at_last e (rec m) (lt? f k)
      go false e rec m = rec m.0 (omega (arith, m.1))

  pub missed : Missed row (length row) f → get_or row f 0 ≡ 0
  missed m = by (lt? f (length row))
    where
      by : (f < length row) ⊎ (length row ≤ f) → get_or row f 0 ≡ 0
      by (inl l) = below (length row) m l
      by (inr l) = get_or-eq_default row 0 l
