-- `first_passing` finds the first number that passes a test, or none of those it tries passes.
use mathlib.Core.Path.{◌≡◌, refl}
use mathlib.Core.Logic.{◌≢◌, ◌⊎◌, inl, inr}
use mathlib.Core.Bool.{Bool, true, false, cond}
use Prim.Native.Nat.{ℕ, zero, suc, ◌+◌, ◌≤◌, ◌<◌}
use native.Mathlib.Omega.{arith}
use Rattle.lists.specs.Ranges.{first_passing}
use Rattle.lists.proofs.Tests.{same?}

-- r is the first of the m numbers from k on that passes the test t
pub record First (m : ℕ) (t : ℕ → Bool) (k r : ℕ) : Type 0 where
  pub low : k ≤ r
  pub high : r < k + m
  pub hit : t r ≡ true
  pub before : (j : ℕ) → k ≤ j → j < r → t j ≡ false

pub seek-first : (m : ℕ) (t : ℕ → Bool) (k : ℕ) → First m t k (first_passing m t k) ⊎ ((j : ℕ) → k ≤ j → j < k + m → t j ≡ false)
seek-first zero t k = inr (λ j a b. absurd (omega arith))
seek-first (suc m) t k = go (t k) refl (seek-first m t (suc k))
  where
    or_later : (r : ℕ) → t k ≡ false → ((j : ℕ) → suc k ≤ j → j < r → t j ≡ false) → (j : ℕ) → k ≤ j → j < r → t j ≡ false
    or_later r e rest j a b = at-k (same? j k)
      where
        at-k : (j ≡ k) ⊎ (j ≢ k) → t j ≡ false
        at-k (inl q) = rw q e
        at-k (inr q) = rest j (omega arith) b

    go : (b : Bool) → t k ≡ b
        → First m t (suc k) (first_passing m t (suc k)) ⊎ ((j : ℕ) → suc k ≤ j → j < suc k + m → t j ≡ false)
        → First (suc m) t k (cond b k (first_passing m t (suc k))) ⊎ ((j : ℕ) → k ≤ j → j < k + suc m → t j ≡ false)
    go true e s = inl record { low = omega arith; high = omega arith; hit = e; before = λ j a b. absurd (omega arith) }
    go false e (inl f) = inl record { low = omega arith; high = omega arith; hit = f.hit; before = or_later (first_passing m t (suc k)) e f.before }
    go false e (inr none) = inr (or_later (k + suc m) e (λ j a b. none j a (omega arith)))
