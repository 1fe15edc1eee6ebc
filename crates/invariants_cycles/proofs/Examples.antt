-- The invariants of a torus, whose t is 12, computed. (Those of 01's four diagrams of size 3 are stated in crate theorems, Table.)
use mathlib.Core.Path.{◌≡◌, refl}
use mathlib.Core.List.{List, [], ◌∷◌}
use Prim.Native.Nat.{ℕ}
use lib.ListN.{length}
use lib.IntN.{ℤ, pos}
use Rattle.lists.specs.Lists.{at}
use Rattle.invariants_multiples.specs.Multiples.{least_common_multiple}
use Rattle.invariants_cycles.specs.Cycles.{e2, e3, c, t, level, fixed_points, cycles, period, least_of_cycle}

-- e2, e3, c, t and level of the lists s0 and s1
record Invariants (s0 s1 : List ℕ) (a b d : ℕ) (s : ℤ) (l : ℕ) : Type 0 where
  e2_is : e2 (length s0) (at s0) (at s1) ≡ a
  e3_is : e3 (length s0) (at s0) (at s1) ≡ b
  c_is : c (length s0) (at s0) (at s1) ≡ d
  t_is : t (length s0) (at s0) (at s1) ≡ s
  level_is : level (length s0) (at s0) (at s1) ≡ l

-- two triangles, each edge joined to one of the other: one cycle through all six
torus : Invariants (2 ∷ 3 ∷ 1 ∷ 5 ∷ 6 ∷ 4 ∷ []) (4 ∷ 5 ∷ 6 ∷ 1 ∷ 2 ∷ 3 ∷ []) 0 0 1 (pos 12) 6
unfolding fixed_points cycles least_common_multiple period least_of_cycle t
torus = record { e2_is = refl; e3_is = refl; c_is = refl; t_is = refl; level_is = refl }
