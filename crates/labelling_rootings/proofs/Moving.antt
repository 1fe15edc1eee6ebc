-- Tests whether a list moves its edges.
use mathlib.Core.Path.{◌≡◌, refl, sym, ap, ◌∙◌}
use mathlib.Core.Logic.{◌≢◌, ◌⊎◌, inl, inr, ◌↔◌}
use mathlib.Core.Bool.{Bool, true, false, not, true≢false}
use mathlib.Core.List.{List}
use Prim.Native.Nat.{ℕ, zero, suc, ◌+◌, ◌<◌}
use native.Mathlib.Omega.{arith}
use native.Mathlib.Numerals.{add-one}
use lib.Dec.{eqb}
use lib.ListN.{length, get_or}
use Rattle.lists.specs.Lists.{at}
use Rattle.lists.specs.Ranges.{OneTo}
use Rattle.lists.proofs.Tests.{same?, eqb-eq, eqb-ne}
use Rattle.labelling_rootings.proofs.Tried.{each_more}

pub not-holds : (b : Bool) → not b ≡ true → b ≡ false
not-holds true e = sym e
not-holds false e = refl

pub unequal-test : (x y : ℕ) → (not (eqb x y) ≡ true) ↔ (x ≢ y)
unequal-test x y = (λ e q. true≢false (sym (eqb-eq x y q) ∙ not-holds (eqb x y) e), λ n. ap not (eqb-ne x y n))

-- by places and by edges
pub places-moved : (s : List ℕ) → ((k : ℕ) → k < length s → get_or s k 0 ≢ k + 1) ↔ ((x : ℕ) → OneTo (length s) x → at s x ≢ x)
places-moved s = (to, λ a k l e. a (suc k) (omega arith) (e ∙ add-one k))
  where
    to : ((k : ℕ) → k < length s → get_or s k 0 ≢ k + 1) → (x : ℕ) → OneTo (length s) x → at s x ≢ x
    to a zero e = absurd (omega arith)
    to a (suc i) e = λ q. a i e.1 (q ∙ sym (add-one i))

-- some edge of 1..n is fixed; all are moved
abbrev SomeFixed : List ℕ → ℕ → Type 0
SomeFixed s n = (x : ℕ) × OneTo n x × (at s x ≡ x)

abbrev AllMoved : List ℕ → ℕ → Type 0
AllMoved s n = (x : ℕ) → OneTo n x → at s x ≢ x

-- what does not move all edges fixes one
pub some-fixed : (s : List ℕ) (n : ℕ) → (¬ AllMoved s n) → SomeFixed s n
some-fixed s zero f = absurd (f (λ x i. absurd (omega arith)))
some-fixed s (suc n) f = go (same? (at s (suc n)) (suc n)) (some-fixed s n)
  where
    go : (at s (suc n) ≡ suc n) ⊎ (at s (suc n) ≢ suc n) → ((¬ AllMoved s n) → SomeFixed s n) → SomeFixed s (suc n)
    go (inl e) h = (suc n, omega arith, e)
    go (inr d) h =
        let (x, i, e) = h (λ a. f (rw (add-one n) at (each_more (λ x. at s x ≢ x) n a (rw (add-one n) d)))) in
        (x, omega arith, e)
