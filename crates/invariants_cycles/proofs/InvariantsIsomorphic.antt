-- Isomorphic diagrams have the same invariants: each number is at most the other diagram's, and the isomorphism has an inverse.
use mathlib.Core.Path.{◌≡◌, ap, ◌∙◌}
use Prim.Native.Nat.{ℕ, ◌≤◌}
use native.Mathlib.Omega.{arith}
use Rattle.diagrams.specs.Diagram.{Maps}
use Rattle.diagrams.specs.Isomorphism.{Isomorphism, IsomorphicMaps, RootedIsomorphicMaps}
use Rattle.diagrams.proofs.Isomorphisms.{isomorphism-sym, maps-carried, root-isomorphic-isomorphic}
use Rattle.invariants_cycles.specs.Cycles.{cusp_map, e2, e3, c, t, level}
use Rattle.invariants_cycles.proofs.Cycles.{around-perm}
use Rattle.invariants_cycles.proofs.Carried.{Carried, fixes-carried, cycles-carried}
use Rattle.invariants_cycles.proofs.Levels.{level-carried}

pub record SameInvariants (n : ℕ) (f g : ℕ → ℕ) (n' : ℕ) (f' g' : ℕ → ℕ) : Type 0 where
  pub e2_same : e2 n f g ≡ e2 n' f' g'
  pub e3_same : e3 n f g ≡ e3 n' f' g'
  pub c_same : c n f g ≡ c n' f' g'
  pub t_same : t n f g ≡ t n' f' g'
  pub level_same : level n f g ≡ level n' f' g'

record AtMost (n : ℕ) (f g f' g' : ℕ → ℕ) : Type 0 where
  e2_most : e2 n f g ≤ e2 n f' g'
  e3_most : e3 n f g ≤ e3 n f' g'
  c_most : c n f g ≤ c n f' g'
  level_most : level n f g ≤ level n f' g'

module _ {n : ℕ} {f g f' g' φ : ℕ → ℕ} (m : Maps n f g) (i : Isomorphism n f g f' g' φ) where
  at_most : AtMost n f g f' g'
  at_most = record {
    e2_most = fixes-carried record { into = i.into; one_one = i.one_one; carries = i.whites };
    e3_most = fixes-carried record { into = i.into; one_one = i.one_one; carries = i.blacks };
    c_most = cycles-carried (around-perm m) (around-perm (maps-carried m i)) around-carried;
    level_most = level-carried (around-perm m) (around-perm (maps-carried m i)) around-carried;
  }
    where
      around-carried : Carried n (cusp_map f g) (cusp_map f' g') φ
      around-carried = record { into = i.into; one_one = i.one_one; carries = λ x e. i.blacks (g x) (m.white_in x e) ∙ ap f' (i.whites x e) }

isomorphic-by : {n : ℕ} {f g f' g' φ : ℕ → ℕ} → Maps n f g → Isomorphism n f g f' g' φ → SameInvariants n f g n f' g'
unfolding t
isomorphic-by {n} {f} {g} {f'} {g'} m i =
    let there = at_most m i in
    let back = at_most (maps-carried m i) (isomorphism-sym i m) in
    let e2_same : e2 n f g ≡ e2 n f' g' = omega arith in
    let e3_same : e3 n f g ≡ e3 n f' g' = omega arith in
    let c_same : c n f g ≡ c n f' g' = omega arith in
    record { e2_same = e2_same; e3_same = e3_same; c_same = c_same; t_same = rw (e2_same, e3_same, c_same); level_same = omega arith }

pub invariants-isomorphic : {n n' : ℕ} {f g f' g' : ℕ → ℕ} → Maps n f g → IsomorphicMaps n f g n' f' g' → SameInvariants n f g n' f' g'
invariants-isomorphic m i = rw (← i.sizes) (isomorphic-by m i.is)

pub invariants-root-isomorphic : {n n' : ℕ} {f g f' g' : ℕ → ℕ} {r r' : ℕ} → Maps n f g → RootedIsomorphicMaps n f g r n' f' g' r' → SameInvariants n f g n' f' g'
invariants-root-isomorphic m i = invariants-isomorphic m (root-isomorphic-isomorphic i)
