-- Laws of a test's answer, a Bool that is true exactly if a statement holds, and of a loop that tests every edge.
use mathlib.Core.Path.{◌≡◌, refl, sym, ◌∙◌}
use mathlib.Core.Logic.{◌↔◌, ◌⊎◌, ◌≢◌, inl, inr}
use mathlib.Core.Bool.{Bool, true, false, ◌&&◌, true≢false}
use Prim.Native.Nat.{ℕ, ◌+◌, ◌≤◌, ◌<◌}
use native.Mathlib.Omega.{arith}
use lib.Dec.{leb}
use Rattle.lists.specs.Ranges.{OneTo}
use Rattle.lists.proofs.Tests.{same?, leb-true, le-true}

module _ {A : Type 0} where
  pub answer-yes : A → (true ≡ true) ↔ A
  answer-yes a = (λ e. a, λ x. refl)

  pub answer-no : ¬ A → (false ≡ true) ↔ A
  answer-no n = (λ e. absurd (true≢false (sym e)), λ a. absurd (n a))

  pub yes-holds : {r : Bool} → (r ≡ true) ↔ A → r ≡ true → A
  yes-holds e q = e.0 q

  pub no-fails : {r : Bool} → (r ≡ true) ↔ A → r ≡ false → ¬ A
  no-fails e q a = true≢false (sym (e.1 a) ∙ q)

-- a loop over the edges of 1..n stands at x: P held of each edge before x
pub record Passed (P : ℕ → Type 0) (n x : ℕ) : Type 0 where
  pub low : 1 ≤ x
  pub high : x ≤ n + 1
  pub before : (y : ℕ) → 1 ≤ y → y < x → P y

module _ (P : ℕ → Type 0) where
  pub passed_none : (n : ℕ) → Passed P n 1
  passed_none n = record { low = omega arith; high = omega arith; before = λ y i j. absurd (omega arith) }

  pub passed-more : {n x : ℕ} → Passed P n x → x ≤ n → P x → Passed P n (x + 1)
  passed-more {x} s l p = record { low = omega arith; high = omega arith; before = λ y i j. go y i j (same? y x) }
    where
      go : (y : ℕ) → 1 ≤ y → y < x + 1 → (y ≡ x) ⊎ (y ≢ x) → P y
      go y i j (inl e) = rw e p
      go y i j (inr d) = s.before y i (omega arith)

  pub passed-all : {n x : ℕ} → Passed P n x → n < x → (y : ℕ) → OneTo n y → P y
  passed-all s l y e = s.before y e.0 (omega arith)

pub and-true : (a b : Bool) → (a && b) ≡ true → (a ≡ true) × (b ≡ true)
and-true true b e = (refl, e)
and-true false b e = absurd (true≢false (sym e))

pub edge_test : (n x : ℕ) → ((leb 1 x && leb x n) ≡ true) ↔ OneTo n x
edge_test n x = (λ e. let b = and-true (leb 1 x) (leb x n) e in (leb-true 1 x b.0, leb-true x n b.1), λ e. rw (le-true 1 x e.0, le-true x n e.1))

-- a loop over the places below n stands at i, and never stops early: good says whether P held of each place before i
pub record Tested (P : ℕ → Type 0) (n i : ℕ) (good : Bool) : Type 0 where
  pub fits : i ≤ n
  pub says : (good ≡ true) ↔ ((k : ℕ) → k < i → P k)

module _ (P : ℕ → Type 0) where
  pub tested-none : (n : ℕ) → Tested P n 0 true
  tested-none n = record { fits = omega arith; says = answer-yes (λ k l. absurd (omega arith)) }

  pub tested-more : {n i : ℕ} {good : Bool} (b : Bool) → Tested P n i good → i < n → (b ≡ true) ↔ P i → Tested P n (i + 1) (good && b)
  tested-more {i} {good} b s l e = record { fits = omega arith; says = (λ q k m. go k m (and-true good b q) (same? k i), back) }
    where
      go : (k : ℕ) → k < i + 1 → (good ≡ true) × (b ≡ true) → (k ≡ i) ⊎ (k ≢ i) → P k
      go k m q (inl d) = rw d (e.0 q.1)
      go k m q (inr d) = s.says.0 q.0 k (omega arith)

      back : ((k : ℕ) → k < i + 1 → P k) → (good && b) ≡ true
      back a = rw (s.says.1 (λ k m. a k (omega arith)), e.1 (a i (omega arith)))

  pub tested-all : {n i : ℕ} {good : Bool} → Tested P n i good → n ≤ i → (good ≡ true) ↔ ((k : ℕ) → k < n → P k)
  tested-all s l = (λ q k m. s.says.0 q k (omega arith), λ a. s.says.1 (λ k m. a k (let f = s.fits in omega arith)))
