-- The clauses of `above` in the code's own terms: by tests and differences instead of successors.
use mathlib.Core.Path.{◌≡◌, refl}
use mathlib.Core.Logic.{◌≢◌}
use Prim.Native.Nat.{ℕ, zero, suc, ◌+◌, ◌-◌, ◌≤◌, ◌<◌}
use native.Mathlib.Omega.{arith}
use Rattle.lists.proofs.Tests.{lt-true, lt-false}
use Rattle.upto_words.specs.Successor.{above}

module _ (h : ℕ) where
  pub above-W-F : (f x : ℕ) → x ≡ 0 → 3 ≤ f → 1 ≡ above h f x
  above-W-F zero x e l = absurd (omega arith)
  above-W-F (suc zero) x e l = absurd (omega arith)
  above-W-F (suc (suc zero)) x e l = absurd (omega arith)
  above-W-F (suc (suc (suc f))) x e l = rw e

  pub above-W-B : (f x : ℕ) → x ≡ 0 → f < 3 → 1 ≤ f → 2 ≡ above h f x
  above-W-B zero x e l k = absurd (omega arith)
  above-W-B (suc zero) x e l k = rw e
  above-W-B (suc (suc zero)) x e l k = rw e
  above-W-B (suc (suc (suc f))) x e l k = absurd (omega arith)

pub above-J0 : (h f x : ℕ) → (x ≡ 0 → f < 1) → x ≢ 1 → x < 3 → 0 < h → 3 ≡ above h f x
above-J0 zero f x a b l k = absurd (omega arith)
above-J0 (suc h) zero zero a b l k = refl
above-J0 (suc h) (suc f) zero a b l k = let i = a refl in absurd (omega arith)
above-J0 (suc h) f (suc zero) a b l k = absurd (b refl)
above-J0 (suc h) f (suc (suc zero)) a b l k = refl
above-J0 (suc h) f (suc (suc (suc d))) a b l k = absurd (omega arith)

pub above-J0-none : (h f x : ℕ) → (x ≡ 0 → f < 1) → x ≢ 1 → x < 3 → h ≤ 0 → 0 ≡ above h f x
above-J0-none (suc h) f x a b l k = absurd (omega arith)
above-J0-none zero zero zero a b l k = refl
above-J0-none zero (suc f) zero a b l k = let i = a refl in absurd (omega arith)
above-J0-none zero f (suc zero) a b l k = absurd (b refl)
above-J0-none zero f (suc (suc zero)) a b l k = refl
above-J0-none zero f (suc (suc (suc d))) a b l k = absurd (omega arith)

module _ (h f : ℕ) where
  pub above-J : (x : ℕ) → 3 ≤ x → x - 2 < h → x + 1 ≡ above h f x
  above-J zero l k = absurd (omega arith)
  above-J (suc zero) l k = absurd (omega arith)
  above-J (suc (suc zero)) l k = absurd (omega arith)
  above-J (suc (suc (suc d))) l k = rw (lt-true (suc d) h (omega arith)) (omega arith)

  pub above-J-none : (x : ℕ) → 3 ≤ x → h ≤ x - 2 → 0 ≡ above h f x
  above-J-none zero l k = absurd (omega arith)
  above-J-none (suc zero) l k = absurd (omega arith)
  above-J-none (suc (suc zero)) l k = absurd (omega arith)
  above-J-none (suc (suc (suc d))) l k = rw (lt-false (suc d) h (omega arith))
