-- Laws of the level: it is the least common multiple of the cycles' lengths, which are positive, and a one-to-one map that carries the
-- permutation φ to ψ does not lower it.
use mathlib.Core.List.{map}
use Prim.Native.Nat.{ℕ, ◌≤◌}
use native.Mathlib.Omega.{arith}
use Rattle.lists.specs.Ranges.{down}
use Rattle.lists.proofs.Ranges.{has-values, values-has}
use Rattle.invariants_multiples.specs.Multiples.{CommonMultiple, LeastCommonMultiple, least_common_multiple}
use Rattle.invariants_multiples.proofs.Multiples.{Positive, lcm-is}
use Rattle.invariants_cycles.specs.Cycles.{Permutation, period, cycle_lengths}
use Rattle.invariants_cycles.proofs.Cycles.{period_is}
use Rattle.invariants_cycles.proofs.Carried.{Carried, period-carried}

-- the lengths of the cycles of the edges 1..i
pub lengths-positive : {n : ℕ} {φ : ℕ → ℕ} → Permutation n φ → (i : ℕ) → i ≤ n → Positive (map (period n φ) (down i))
lengths-positive {n} {φ} p i s d h =
    let r = values-has i (period n φ) d h in
    let e = r.1 in
    rw r.2 (period_is p r.0 (omega arith)).some

pub lengths-level : {n : ℕ} {φ : ℕ → ℕ} → Permutation n φ → (i : ℕ) → i ≤ n → LeastCommonMultiple (map (period n φ) (down i)) (least_common_multiple (map (period n φ) (down i)))
lengths-level {n} {φ} p i s = lcm-is (map (period n φ) (down i)) (lengths-positive p i s)

pub level_is : {n : ℕ} {φ : ℕ → ℕ} → Permutation n φ → LeastCommonMultiple (cycle_lengths n φ) (least_common_multiple (cycle_lengths n φ))
level_is {n} p = lengths-level p n (omega arith)

pub level-carried : {n : ℕ} {φ ψ h : ℕ → ℕ} → Permutation n φ → Permutation n ψ → Carried n φ ψ h
    → least_common_multiple (cycle_lengths n φ) ≤ least_common_multiple (cycle_lengths n ψ)
level-carried {n} {φ} {ψ} {h} p q c = (level_is p).least _ (level_is q).positive multiple
  where
    multiple : CommonMultiple (cycle_lengths n φ) (least_common_multiple (cycle_lengths n ψ))
    multiple d i =
        let r = values-has n (period n φ) d i in
        rw (r.2, period-carried p q c r.0 r.1) ((level_is q).multiple _ (has-values n (period n ψ) (h r.0) (c.into r.0 r.1)))
