-- Laws of the number of kept diagrams among some that follow one another: stretches add up, and no more are kept than there are.
use mathlib.Core.Path.{◌≡◌}
use mathlib.Core.Bool.{Bool, true, false, cond}
use Prim.Native.Nat.{ℕ, zero, suc, ◌+◌, ◌≤◌}
use native.Mathlib.Nat.{add-zero}
use native.Mathlib.Omega.{arith}
use Rattle.listing.specs.Diagrams.{diagram_at}
use Rattle.census_definition.specs.Census.{is_kept_word, kept_among}

pub kept_then : (n p j k : ℕ) → kept_among n p (j + k) ≡ kept_among n p j + kept_among n (p + j) k
unfolding kept_among
kept_then n p j zero = rw (add-zero j) (omega arith)
kept_then n p j (suc k) =
    let e : j + suc k ≡ suc (j + k) = omega arith in
    let f : p + (j + k) ≡ (p + j) + k = omega arith in
    rw (e, kept_then n p j k, f) (omega arith)

pub kept-most : (n p k : ℕ) → kept_among n p k ≤ k
unfolding kept_among
kept-most n p zero = omega arith
kept-most n p (suc k) = go (is_kept_word (diagram_at n (suc (p + k)))) (kept-most n p k)
  where
    go : (b : Bool) → kept_among n p k ≤ k → kept_among n p k + cond b 1 0 ≤ suc k
    go true i = omega arith
    go false i = omega arith
