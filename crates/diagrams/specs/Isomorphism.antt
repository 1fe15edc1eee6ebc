-- Isomorphism of diagrams, with roots and without. Only a map that carries s0 to s0 and s1 to s1 counts,
-- so orientation counts: a diagram and its mirror image, whose black map runs the other way round, need not be isomorphic.
-- Rooted diagrams are isomorphic exactly if their subgroups of PSL2(Z) are equal; without roots, if the subgroups are conjugate.
--
--   Isomorphism n f g f' g' φ       φ is one-to-one from the edges 1..n onto 1..n and carries f to f' and g to g'
--   IsomorphicMaps n f g n' f' g'   equal sizes, and some isomorphism: isomorphic without roots
--   RootedIsomorphicMaps ..         some isomorphism that carries root to root besides
--   Isomorphic, RootedIsomorphic    the same two of diagrams given as lists
use Rattle.std.specs.Prelude.{◌≡◌, List, ℕ, length}
use Rattle.lists.specs.Lists.{at}
use Rattle.lists.specs.Ranges.{OneTo}

pub record Isomorphism (n : ℕ) (f g f' g' φ : ℕ → ℕ) : Type 0 where
  pub into : (x : ℕ) → OneTo n x → OneTo n (φ x)
  pub one_one : (x y : ℕ) → OneTo n x → OneTo n y → φ x ≡ φ y → x ≡ y
  pub onto : (y : ℕ) → OneTo n y → (x : ℕ) × OneTo n x × (φ x ≡ y)
  pub blacks : (x : ℕ) → OneTo n x → φ (f x) ≡ f' (φ x)
  pub whites : (x : ℕ) → OneTo n x → φ (g x) ≡ g' (φ x)

pub record IsomorphicMaps (n : ℕ) (f g : ℕ → ℕ) (n' : ℕ) (f' g' : ℕ → ℕ) : Type 0 where
  pub sizes : n ≡ n'
  pub by : ℕ → ℕ
  pub is : Isomorphism n f g f' g' by

pub record RootedIsomorphicMaps (n : ℕ) (f g : ℕ → ℕ) (r n' : ℕ) (f' g' : ℕ → ℕ) (r' : ℕ) : Type 0 where
  pub sizes : n ≡ n'
  pub by : ℕ → ℕ
  pub is : Isomorphism n f g f' g' by
  pub roots : by r ≡ r'

-- the lists s0, s1 and t0, t1 are isomorphic without roots
abbrev pub Isomorphic : List ℕ → List ℕ → List ℕ → List ℕ → Type 0
Isomorphic s0 s1 t0 t1 = IsomorphicMaps (length s0) (at s0) (at s1) (length t0) (at t0) (at t1)

-- the lists s0, s1 with root r and t0, t1 with root q are isomorphic with roots
abbrev pub RootedIsomorphic : List ℕ → List ℕ → ℕ → List ℕ → List ℕ → ℕ → Type 0
RootedIsomorphic s0 s1 r t0 t1 q = RootedIsomorphicMaps (length s0) (at s0) (at s1) r (length t0) (at t0) (at t1) q
