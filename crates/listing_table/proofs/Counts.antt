-- The counts of listed sizes fit: a count is the sum of two numbers of ways, which the table bounds.
use Prim.Native.Nat.{ℕ, zero, suc, ◌^◌, ◌<◌}
use native.Mathlib.Omega.{arith}
use Rattle.lists.specs.Ranges.{OneTo}
use Rattle.listing.specs.Listing.{count}
use Rattle.listing.proofs.Listing.{counted}
use Rattle.listing_table.proofs.Table.{ways-small}

pub count_small : (n : ℕ) → OneTo 50 n → count n < 2 ^ 50
unfolding count
count_small zero e = absurd (omega arith)
count_small (suc zero) e = let a = ways-small 1 0 (omega arith) in rw (counted 1) (omega arith)
count_small (suc (suc zero)) e = let a = ways-small 1 1 (omega arith) in rw (counted 2) (omega arith)
count_small (suc (suc (suc f))) e =
    let a = ways-small 1 (suc (suc f)) (omega arith) in
    let b = ways-small 3 f (omega arith) in
    rw (counted (suc (suc (suc f)))) (omega arith)
