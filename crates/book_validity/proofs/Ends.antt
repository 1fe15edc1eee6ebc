-- Where shares end, found one after another: x k + r = j N with r < k says that x is the quotient of j N by k.
use mathlib.Core.Path.{◌≡◌, sym, ◌∙◌}
use Prim.Native.Nat.{ℕ, suc, ◌+◌, ◌*◌, ◌/◌, ◌%◌, ◌^◌, ◌≤◌, ◌<◌}
use native.Mathlib.Nat.{div-eq_of_lt-le, div-add-mod', mod-lt, mul-le-mul, le_refl, add-mul, div-le_self}
use native.Mathlib.Numerals.{add-one}
use native.Mathlib.Omega.{arith}
use Rattle.listing.specs.Listing.{count}
use Rattle.book.specs.Shares.{last}
use Rattle.book.proofs.Counts.{product_small}

pub ended : (n k j x r total : ℕ) → total ≡ count n → x * k + r ≡ j * total → r < k → x ≡ last n k j
unfolding last
ended n k j x r total e h l =
    let u : j * total < (x + 1) * k = rw (add-mul x 1 k) (omega arith) in
    rw (sym e) (sym (div-eq_of_lt-le k (omega arith) u))

pub end-small : (k j x r total : ℕ) → x * k + r ≡ j * total → 1 ≤ k → total < 2 ^ 50 → j ≤ 32 → x < 2 ^ 56
end-small k j x r total h k1 t l =
    let p = product_small total j t l in
    let q : x * 1 ≤ x * k = mul-le-mul (le_refl x) k1 in
    omega arith

pub end_more : (k i x r x' r' step part total : ℕ) → x' * k + r' ≡ (x * k + r) + (step * k + part) → x * k + r ≡ i * total → step * k + part ≡ total → x' * k + r' ≡ (i + 1) * total
end_more k i x r x' r' step part total h a b = rw (add-mul i 1 total) (omega arith)

pub shared : (total k : ℕ) → total / k * k + total % k ≡ total
shared total k = div-add-mod' total k

pub part_small : (total k : ℕ) → 1 ≤ k → total % k < k
part_small total k h = mod-lt total h

pub step_small : (total k : ℕ) → total < 2 ^ 50 → total / k < 2 ^ 50
step_small total k h = let q = div-le_self total k in omega arith
