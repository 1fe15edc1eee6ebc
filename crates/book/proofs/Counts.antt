-- The counts of listed sizes and the positions of shares fit: a count is the sum of two numbers of ways, which the table bounds.
use mathlib.Core.Path.{◌≡◌}
use Prim.Native.Nat.{ℕ, zero, suc, ◌+◌, ◌*◌, ◌/◌, ◌^◌, ◌≤◌, ◌<◌}
use native.Mathlib.Nat.{mul-le-mul, div-le_self}
use native.Mathlib.Omega.{arith}
use Rattle.lists.specs.Ranges.{OneTo}
use Rattle.listing.specs.Listing.{ways, count}
use Rattle.listing.proofs.Listing.{counted}
use Rattle.listing_table.proofs.Table.{ways-small}
use Rattle.book.specs.Shares.{last}

pub count_small : (n : ℕ) → OneTo 50 n → count n < 2 ^ 50
unfolding count
count_small zero e = absurd (omega arith)
count_small (suc zero) e = let a = ways-small 1 0 (omega arith) in rw (counted 1) (omega arith)
count_small (suc (suc zero)) e = let a = ways-small 1 1 (omega arith) in rw (counted 2) (omega arith)
count_small (suc (suc (suc f))) e =
    let a = ways-small 1 (suc (suc f)) (omega arith) in
    let b = ways-small 3 f (omega arith) in
    rw (counted (suc (suc (suc f)))) (omega arith)

pub product_small : (total j : ℕ) → total < 2 ^ 50 → j ≤ 32 → j * total ≤ 2 ^ 55
product_small total j h l = let q = mul-le-mul l h in omega arith

pub quotient-small : (total k j : ℕ) → total < 2 ^ 50 → j ≤ 32 → j * total / k < 2 ^ 56
quotient-small total k j h l = let p = product_small total j h l in let q = div-le_self (j * total) k in omega arith

pub last-small : (n k j : ℕ) → OneTo 50 n → j ≤ 32 → last n k j < 2 ^ 56
unfolding last
last-small n k j e l = quotient-small (count n) k j (count_small n e) l
