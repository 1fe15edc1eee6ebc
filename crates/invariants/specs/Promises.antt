-- What invariants promises, by the cases of its answer: it refuses what check refuses, 1 to 8, and then, with 62, a level of 2^64 or more.
--
--   Invariants s0 s1 r               the numbers r are the invariants of the diagram given as the lists s0 and s1
--   Outgrown s0 s1                   its level is 2^64 or more
--   MeasuredPromise s0 s1 a          the answer where the lists are known to be a diagram's
--   InvariantsPromise s0 s1 root a   the promise of `invariants`
use Rattle.std.specs.Prelude.{◌≡◌, ◌⊎◌, List, ℕ, ◌^◌, ◌≤◌, length, Result, Ok, Err}
use Rattle.lists.specs.Lists.{at}
use Rattle.diagrams.specs.Check.{Accepts, Refuses}
use Rattle.invariants_cycles.specs.Cycles as cycles
use Rattle.invariants.specs.declared.Numbers.{Numbers}
use Rattle.refusals.specs.declared.Refusal.{Refusal}
use Rattle.refusals.specs.Numbers.{number}

pub record Invariants (s0 s1 : List ℕ) (r : Numbers) : Type 0 where
  pub e2_is : r.e2 ≡ cycles.e2 (length s0) (at s0) (at s1)
  pub e3_is : r.e3 ≡ cycles.e3 (length s0) (at s0) (at s1)
  pub c_is : r.c ≡ cycles.c (length s0) (at s0) (at s1)
  pub t_is : r.t ≡ cycles.t (length s0) (at s0) (at s1)
  pub level_is : r.level ≡ cycles.level (length s0) (at s0) (at s1)

abbrev pub Outgrown : List ℕ → List ℕ → Type 0
Outgrown s0 s1 = 2 ^ 64 ≤ cycles.level (length s0) (at s0) (at s1)

abbrev pub MeasuredPromise : List ℕ → List ℕ → Result Numbers Refusal → Type 0
MeasuredPromise s0 s1 (Ok r) = (¬ Outgrown s0 s1) × Invariants s0 s1 r
MeasuredPromise s0 s1 (Err e) = (number e ≡ 62) × Outgrown s0 s1

abbrev pub InvariantsPromise : List ℕ → List ℕ → ℕ → Result Numbers Refusal → Type 0
InvariantsPromise s0 s1 root (Ok r) = Accepts s0 s1 root × (¬ Outgrown s0 s1) × Invariants s0 s1 r
InvariantsPromise s0 s1 root (Err e) =
    Refuses s0 s1 root (number e) ⊎ ((number e ≡ 62) × Accepts s0 s1 root × Outgrown s0 s1)
