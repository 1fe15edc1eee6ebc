-- The shares divide the positions 1..N among them: each position is held by exactly one share.
use mathlib.Core.Path.{◌≡◌, refl, sym, ap, ◌∙◌}
use mathlib.Core.Logic.{◌≢◌, ◌⊎◌, inl, inr, ⊎_elim}
use Prim.Native.Nat.{ℕ, zero, suc, pred, ◌+◌, ◌*◌, ◌/◌, ◌≤◌, ◌<◌}
use native.Mathlib.Nat.{le-div_iff_mul-le, div-mul-le_self, mul-div_right, mul-le-mul_right, le_trans, zero-mul, zero-div}
use native.Mathlib.Omega.{arith}
use Rattle.lists.specs.Ranges.{OneTo}
use Rattle.lists.proofs.Tests.{lt?}
use Rattle.listing.specs.Listing.{count}
use Rattle.book.specs.Shares.{first, last}
use Rattle.book.specs.Holding.{ShareHolds}

module _ (n k : ℕ) (some : 0 < k) where
  last-zero : last n k 0 ≡ 0
  unfolding last
  last-zero = rw (zero-mul, zero-div)

  pub last-all : last n k k ≡ count n
  unfolding last
  last-all = mul-div_right (count n) some

  pub last-le : (i j : ℕ) → i ≤ j → last n k i ≤ last n k j
  unfolding last
  last-le i j h = (le-div_iff_mul-le some).1 (le_trans (div-mul-le_self (i * count n) k) (mul-le-mul_right (count n) h))

  first-after : (j : ℕ) → first n k (suc j) ≡ suc (last n k j)
  unfolding first
  first-after j = let e : pred (suc j) ≡ j = omega arith in rw e

  -- the first of the shares 1..m whose last position is not before p
  seek : (m : ℕ) → m ≤ k → (p : ℕ) → 1 ≤ p → p ≤ last n k m → (j : ℕ) × ShareHolds n k j p
  seek zero l p h u = let z = last-zero in absurd (omega arith)
  seek (suc m) l p h u = go (lt? (last n k m) p) (seek m (omega arith) p h)
    where
      go : (last n k m < p) ⊎ (p ≤ last n k m) → (p ≤ last n k m → (j : ℕ) × ShareHolds n k j p) → (j : ℕ) × ShareHolds n k j p
      go (inl b) r = (suc m, record { share = omega arith; from = rw (first-after m) b; to = u })
      go (inr b) r = r b

  pub share-of : (p : ℕ) → OneTo (count n) p → (j : ℕ) × ShareHolds n k j p
  share-of p e = seek k (omega arith) p e.0 (rw last-all e.1)

  pub held_in : (j p : ℕ) → ShareHolds n k j p → OneTo (count n) p
  held_in zero p H = let i = H.share in absurd (omega arith)
  held_in (suc j) p H =
      let a = rw first-after at H.from in
      let b = H.to in
      let c = last-le (suc j) k H.share.1 in
      let d = last-all in
      omega arith

  -- no two shares hold one position
  distinct : (i j p : ℕ) → ShareHolds n k i p → ShareHolds n k j p → ¬ (i < j)
  distinct i zero p H K l = omega arith
  distinct i (suc j) p H K l =
      let a = H.to in
      let b = rw first-after at K.from in
      let c = last-le i j (omega arith) in
      omega arith

  pub share-once : (i j p : ℕ) → ShareHolds n k i p → ShareHolds n k j p → i ≡ j
  share-once i j p H K = let a = distinct i j p H K in let b = distinct j i p K H in omega arith
