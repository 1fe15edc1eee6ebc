-- Numbers that are 0, tested by their digits together: x | y is 0 exactly if both are.
use mathlib.Core.Path.{◌≡◌, refl}
use mathlib.Core.Logic.{◌≢◌, ◌⊎◌, inl, inr}
use mathlib.Core.Bool.{Bool}
use mathlib.Core.List.{List}
use Prim.Native.Nat.{ℕ, suc, ◌+◌, ◌-◌, ◌≤◌}
use native.Mathlib.Omega.{arith}
use lib.Bits.{bit_or, or_add_and, and_le_r}
use lib.Dec.{eqb}
use Rattle.lists.specs.Lists.{at}
use Rattle.lists.specs.Ranges.{every}
use Rattle.lists.proofs.Tests.{eqb-ne, same?}
use Rattle.book.specs.Valid.{both}
use Rattle.book_entries.specs.Entries.{unused_after}

or-zero : (x y : ℕ) → eqb (bit_or x y) 0 ≡ both (eqb x 0) (eqb y 0)
or-zero x y = go (same? x 0)
  where
    go : (x ≡ 0) ⊎ (x ≢ 0) → eqb (bit_or x y) 0 ≡ both (eqb x 0) (eqb y 0)
    go (inl e) = rw e
    go (inr n) = rw (eqb-ne x 0 n, eqb-ne (bit_or x y) 0 (λ e. n (omega (arith, or_add_and x y, and_le_r x y))))

module _ (p t e : List ℕ) (k : ℕ) where
  -- the entries after the first k, up to i, are 0
  abbrev pub unused_to : ℕ → Bool
  unused_to i = every (i - k) (λ m. both (eqb (at p (k + m)) 0) (both (eqb (at t (k + m)) 0) (eqb (at e (k + m)) 0)))

  pub more-unused : (i any : ℕ) → k ≤ i → eqb any 0 ≡ unused_to i → eqb (bit_or (bit_or (at p (suc i)) (bit_or (at t (suc i)) (at e (suc i)))) any) 0 ≡ unused_to (i + 1)
  more-unused i any l h =
      let d : i + 1 - k ≡ suc (i - k) = omega arith in
      let s : k + suc (i - k) ≡ suc i = omega arith in
      rw (d, s, or-zero, or-zero, or-zero, h)

  pub none-unused : eqb 0 0 ≡ unused_to k
  none-unused = let d : k - k ≡ 0 = omega arith in rw d

  pub all-unused : (i : ℕ) → 32 ≤ i → i ≤ 32 → unused_to i ≡ unused_after p t e k
  unfolding unused_after
  all-unused i l u = let d : i ≡ 32 = omega arith in rw d
