-- Trivalent diagrams. The black map f leads from each edge to the next one round its black vertex,
-- the white map g to the next one round its white vertex. In the field's terms a diagram is an oriented combinatorial map, or a
-- transitive action of PSL2(Z) on n points: f and g, the lists s0 and s1, are permutations whose orders divide 3 and 2, by which two
-- generators act on the cosets of a subgroup of index n. The root is the coset of the subgroup itself.
--
--   Reached f g r x     there is a path from edge r to edge x by steps of f and g
--   Maps n f g          f and g are maps of the edges 1..n; f thrice and g twice give every edge back
--   Diagram n f g       a diagram of size n: such maps, and every edge is reached from edge 1
--   Rooted s0 s1 root   the lists s0 (black) and s1 (white) are a diagram, and root is one of its edges
use Rattle.std.specs.Prelude.{◌≡◌, List, ℕ, ◌≤◌, length}
use Rattle.lists.specs.Lists.{at}
use Rattle.lists.specs.Ranges.{OneTo}

-- a path: none at all, or a path with one black or white step more
pub data Reached (f g : ℕ → ℕ) (r : ℕ) : ℕ → Type 0 where
  here : Reached f g r r
  black : {x : ℕ} → Reached f g r x → Reached f g r (f x)
  white : {x : ℕ} → Reached f g r x → Reached f g r (g x)

pub record Maps (n : ℕ) (f g : ℕ → ℕ) : Type 0 where
  pub some_edge : 1 ≤ n
  pub black_in : (x : ℕ) → OneTo n x → OneTo n (f x)
  pub white_in : (x : ℕ) → OneTo n x → OneTo n (g x)
  pub thrice : (x : ℕ) → OneTo n x → f (f (f x)) ≡ x
  pub twice : (x : ℕ) → OneTo n x → g (g x) ≡ x

pub record Diagram (n : ℕ) (f g : ℕ → ℕ) : Type 0 where
  pub maps : Maps n f g
  pub connected : (x : ℕ) → OneTo n x → Reached f g 1 x

pub record Rooted (s0 s1 : List ℕ) (root : ℕ) : Type 0 where
  pub lengths : length s1 ≡ length s0
  pub root_in : OneTo (length s0) root
  pub diagram : Diagram (length s0) (at s0) (at s1)
