-- The invariants of a diagram (document 01, "Invariants"), part of demand 2: e2, e3, c, t and the level equal their definitions, and
-- isomorphic diagrams have the same. Crate invariants_cycles defines them by tests that are computed; here they are said without these tests.
--
--   Counts n P m        m of the edges 1..n have the property P
--   LeastReturn φ x l   l is the least number of steps, from 1 on, after which φ leads x back to x: the length of x's cycle
--   Lowest φ x          no edge of x's cycle is below x
--   Level n φ m         m is the least positive number that the length of every cycle of φ divides
--   Over64Bits m        m is 2^64 or more
--   CyclesHold n φ      period, cycles and the level of a permutation φ of 1..n are what they are called
--   Means n f g x       the numbers x are the invariants of the diagram with black map f and white map g
-- and from elsewhere: least_common_multiple (crate invariants_multiples, Multiples); Permutation, iterate, SameCycle, least_of_cycle, period, cycles, cycle_lengths, cusp_map (crate
-- invariants_cycles, Cycles); Invariants s0 s1 x, the numbers x are e2, e3, c, t and level as crate invariants_cycles defines them, InvariantsPromise, the promise of the
-- operation, (crate invariants, Promises); refusal_number, the number of an answer (crate refusals, Numbers);
-- Isomorphic, Accepts (diagrams); ExactlyOne (Listing).
use Rattle.std.specs.Prelude.{◌≡◌, ◌≢◌, ◌↔◌, true, List, ℕ, ◌+◌, ◌*◌, ◌^◌, ◌≤◌, ◌<◌, length, Result, Ok}
use Rattle.std.specs.Int.{◌∣◌}
use Rattle.std.proofs.Math.IntN.{sub_ℕ}
use Rattle.lists.specs.Lists.{at, Has, Distinct}
use Rattle.lists.specs.Ranges.{OneTo}
use Rattle.diagrams.specs.Check.{Accepts}
use Rattle.diagrams.specs.Isomorphism.{Isomorphic}
use Rattle.invariants_multiples.specs.Multiples.{least_common_multiple}
use Rattle.invariants_cycles.specs.Cycles.{Permutation, iterate, SameCycle, least_of_cycle, period, cycles, cycle_lengths, cusp_map}
use Rattle.invariants.specs.declared.Numbers.{Numbers}
use Rattle.refusals.specs.declared.Refusal.{Refusal}
use Rattle.refusals.specs.Numbers.{refusal_number}
use Rattle.invariants.specs.Promises.{Invariants, InvariantsPromise}
use Rattle.theorems.specs.Listing.{ExactlyOne}

pub record Counts (n : ℕ) (P : ℕ → Type 0) (m : ℕ) : Type 0 where
  pub those : List ℕ
  pub once : Distinct those
  pub exactly : (x : ℕ) → Has x those ↔ (OneTo n x × P x)
  pub number : length those ≡ m

pub record LeastReturn (φ : ℕ → ℕ) (x l : ℕ) : Type 0 where
  pub some : 1 ≤ l
  pub back : iterate φ l x ≡ x
  pub least : (k : ℕ) → 1 ≤ k → iterate φ k x ≡ x → l ≤ k

abbrev pub Lowest : (ℕ → ℕ) → ℕ → Type 0
Lowest φ x = (y : ℕ) → SameCycle φ x y → x ≤ y

pub record Level (n : ℕ) (φ : ℕ → ℕ) (m : ℕ) : Type 0 where
  pub positive : 1 ≤ m
  pub divided : (x l : ℕ) → OneTo n x → LeastReturn φ x l → l ∣ m
  pub least : (k : ℕ) → 1 ≤ k → ((x l : ℕ) → OneTo n x → LeastReturn φ x l → l ∣ k) → m ≤ k

abbrev pub Over64Bits : ℕ → Type 0
Over64Bits m = 2 ^ 64 ≤ m

pub record CyclesHold (n : ℕ) (φ : ℕ → ℕ) : Type 0 where
  -- the period of an edge is its least return
  pub period_is : (x : ℕ) → OneTo n x → LeastReturn φ x (period n φ x)
  -- an edge lies in the cycle of each edge of its own cycle
  pub both_ways : (x y : ℕ) → OneTo n x → SameCycle φ x y → SameCycle φ y x
  -- each cycle has exactly one lowest edge,
  pub one_lowest : (x : ℕ) → OneTo n x → ExactlyOne n (λ y. SameCycle φ x y × Lowest φ y)
  -- the one that `least_of_cycle` marks,
  pub lowest_is : (x : ℕ) → OneTo n x → (least_of_cycle n φ x ≡ true) ↔ Lowest φ x
  -- and `cycles` counts these: each cycle once
  pub cycles_are : Counts n (Lowest φ) (cycles n φ)
  -- the least common multiple of the lengths is the level, and nothing else is
  pub level_is : Level n φ (least_common_multiple (cycle_lengths n φ))
  pub level_only : (m k : ℕ) → Level n φ m → Level n φ k → m ≡ k
  -- it is the order of φ: φ applied k times moves no edge exactly where the level divides k
  pub level_order : (k : ℕ) → (least_common_multiple (cycle_lengths n φ) ∣ k) ↔ ((x : ℕ) → OneTo n x → iterate φ k x ≡ x)
  pub level_bound : least_common_multiple (cycle_lengths n φ) ≤ 2 ^ n

pub record Means (n : ℕ) (f g : ℕ → ℕ) (x : Numbers) : Type 0 where
  -- e2 and e3 are the numbers of edges that the white map, and the black map, fixes
  pub e2_is : Counts n (λ i. g i ≡ i) x.e2
  pub e3_is : Counts n (λ i. f i ≡ i) x.e3
  -- c is the number of cycles of i to f (g i), counted by their lowest edges
  pub c_is : Counts n (Lowest (cusp_map f g)) x.c
  pub t_is : x.t ≡ sub_ℕ (12 + n) (3 * x.e2 + 4 * x.e3 + 6 * x.c)
  -- the level is the least positive number that the lengths of those cycles divide
  pub level_is : Level n (cusp_map f g) x.level

pub record InvariantsHold : Type 0 where
  -- i to s0(s1(i)) is a permutation of the edges of a diagram; of every permutation, the numbers of its cycles are what they are called
  pub permutes : (s0 s1 : List ℕ) (root : ℕ) → Accepts s0 s1 root → Permutation (length s0) (cusp_map (at s0) (at s1))
  pub cycles_of : (n : ℕ) (φ : ℕ → ℕ) → Permutation n φ → CyclesHold n φ
  -- the numbers that the operation answers are the invariants of the diagram given
  pub measured : (s0 s1 : List ℕ) (root : ℕ) (x : Numbers) → InvariantsPromise s0 s1 root (Ok x) → Means (length s0) (at s0) (at s1) x
  -- it answers 62 exactly where they are a diagram whose level is 2^64 or more, so never of a diagram of fewer than 64 edges
  pub outgrown : (s0 s1 : List ℕ) (root : ℕ) (a : Result Numbers Refusal) → InvariantsPromise s0 s1 root a
      → (refusal_number a ≡ 62) ↔ (Accepts s0 s1 root × ((m : ℕ) × Level (length s0) (cusp_map (at s0) (at s1)) m × Over64Bits m))
  pub small_known : (s0 s1 : List ℕ) (root : ℕ) (a : Result Numbers Refusal) → InvariantsPromise s0 s1 root a → length s0 < 64 → refusal_number a ≢ 62
  -- isomorphic diagrams have the same invariants, and the operation answers the same for them, 62 too
  pub isomorphic_same : (s0 s1 : List ℕ) (r : ℕ) → Accepts s0 s1 r → (t0 t1 : List ℕ) → Isomorphic s0 s1 t0 t1 → (x : Numbers) → Invariants s0 s1 x → Invariants t0 t1 x
  pub isomorphic_measured : (s0 s1 : List ℕ) (r : ℕ) → Accepts s0 s1 r → (a : Result Numbers Refusal) → InvariantsPromise s0 s1 r a
      → (t0 t1 : List ℕ) (q : ℕ) → Accepts t0 t1 q → (b : Result Numbers Refusal) → InvariantsPromise t0 t1 q b → Isomorphic s0 s1 t0 t1 → a ≡ b
