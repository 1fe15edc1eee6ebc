-- 01's table (k) and (l): the positions that the shares of two small books hold, by computation of the counts.
use mathlib.Core.Path.{◌≡◌, refl}
use Prim.Native.Nat.{ℕ}
use native.Mathlib.Omega.{arith}
use Rattle.listing.specs.Listing.{completions, listing, count}
use Rattle.book.specs.Shares.{first, last}
use Rattle.book.specs.Holding.{ShareHolds}
use Rattle.book.proofs.Partition.{held_in, share-once}

-- (k) size 4 in 3 shares: 1-2, 3-5, 6-8
pub size-4-in-3 : ((first 4 3 1 ≡ 1) × (last 4 3 1 ≡ 2)) × ((first 4 3 2 ≡ 3) × (last 4 3 2 ≡ 5)) × ((first 4 3 3 ≡ 6) × (last 4 3 3 ≡ 8))
unfolding first last count listing completions
size-4-in-3 = ((refl, refl), (refl, refl), (refl, refl))

-- (l) size 1 in 32 shares: only share 32 holds a position
pub size-1-in-32 : ShareHolds 1 32 32 1
unfolding first last count listing completions
size-1-in-32 = record { share = omega arith; from = omega arith; to = omega arith }

one-position : count 1 ≡ 1
unfolding count listing completions
one-position = refl

pub size-1-only-32 : (j p : ℕ) → ShareHolds 1 32 j p → (j ≡ 32) × (p ≡ 1)
size-1-only-32 j p H =
    let i = held_in 1 32 (omega arith) j p H in
    let c = one-position in
    let e : p ≡ 1 = omega arith in
    (share-once 1 32 (omega arith) j 32 1 (rw e at H) size-1-in-32, e)
