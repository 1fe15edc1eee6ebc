-- The count of a size by the ways to go on: the words that begin with U, and those that begin with T.
use mathlib.Core.Path.{◌≡◌, ◌∙◌}
use Prim.Native.Nat.{ℕ, zero, suc, ◌+◌, ◌-◌, ◌≤◌, ◌<◌}
use native.Mathlib.Omega.{arith}
use Rattle.listing.specs.Listing.{ways, count}
use Rattle.listing.proofs.Listing.{counted}

pub count-few : (n : ℕ) → 1 ≤ n → n < 3 → count n ≡ ways 1 (n - 1)
unfolding count
count-few zero l m = absurd (omega arith)
count-few (suc zero) l m = counted 1 ∙ omega arith
count-few (suc (suc zero)) l m = counted 2 ∙ omega arith
count-few (suc (suc (suc f))) l m = absurd (omega arith)

pub count-more : (n : ℕ) → 3 ≤ n → count n ≡ ways 1 (n - 1) + ways 3 (n - 3)
unfolding count
count-more zero l = absurd (omega arith)
count-more (suc zero) l = absurd (omega arith)
count-more (suc (suc zero)) l = absurd (omega arith)
count-more (suc (suc (suc f))) l =
    let a : suc (suc (suc f)) - 1 ≡ suc (suc f) = omega arith in
    let b : suc (suc (suc f)) - 3 ≡ f = omega arith in
    rw (a, b) (counted (suc (suc (suc f))))
