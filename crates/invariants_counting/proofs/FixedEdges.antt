-- The step of fixed's loop: one edge more, which the list fixes or not.
use mathlib.Core.Path.{◌≡◌, refl, sym, ◌∙◌}
use mathlib.Core.Logic.{◌≢◌}
use mathlib.Core.List.{List}
use Prim.Native.Nat.{ℕ, suc, ◌+◌}
use native.Mathlib.Omega.{arith}
use native.Mathlib.Numerals.{add-one}
use lib.ListN.{get_or}
use Rattle.lists.specs.Lists.{at}
use Rattle.lists.proofs.Tests.{eqb-eq, eqb-ne}
use Rattle.invariants_cycles.specs.Cycles.{fixed_points}

pub fixes-none : (g : ℕ → ℕ) → 0 ≡ fixed_points 0 g
unfolding fixed_points
fixes-none g = refl

module _ (s : List ℕ) (i count : ℕ) (counted : count ≡ fixed_points i (at s)) where
  pub fixes-one-more : get_or s i 0 ≡ i + 1 → count + 1 ≡ fixed_points (i + 1) (at s)
  unfolding fixed_points
  fixes-one-more q = rw (add-one i) (rw (eqb-eq (get_or s i 0) (suc i) (q ∙ add-one i)) (omega arith))

  pub fixes-no-more : get_or s i 0 ≢ i + 1 → count ≡ fixed_points (i + 1) (at s)
  unfolding fixed_points
  fixes-no-more q = rw (add-one i) (rw (eqb-ne (get_or s i 0) (suc i) (λ z. q (z ∙ sym (add-one i)))) (omega arith))
