-- The cycles of a permutation φ of the edges 1..n, and the invariants of a diagram with black map f and white map g
-- (document 01, "Invariants"). All of it is said of the permutation and not of a loop that finds it.
--
--   Permutation n φ       φ maps 1..n into itself, one-to-one
--   iterate φ k x         φ applied k times to x
--   SameCycle φ x y       x and y are in one cycle
--   least_of_cycle n φ x    x is the least edge of its cycle
--   cycles n φ            the number of cycles: how many edges are the least of theirs
--   period n φ x          the length of x's cycle: the least k from 1 on with φ applied k times giving x back
--   cycle_lengths n φ      the lengths of the cycles, each once for every edge of its cycle
--   fixed_points n g       how many edges g fixes
--   cusp_map f g           the map i to f (g i), whose cycles the invariants count
--   e2, e3, c, t, level   the invariants of a diagram; t is a signed number
use Rattle.std.specs.Prelude.{◌≡◌, Bool, List, map, ℕ, zero, suc, ◌+◌, ◌*◌, eqb, leb, ℤ}
use Rattle.std.proofs.Math.IntN.{sub_ℕ}
use Rattle.lists.specs.Ranges.{OneTo, every, card, first_passing, down}
use Rattle.invariants_multiples.specs.Multiples.{least_common_multiple}

pub record Permutation (n : ℕ) (φ : ℕ → ℕ) : Type 0 where
  pub into : (x : ℕ) → OneTo n x → OneTo n (φ x)
  pub one_one : (x y : ℕ) → OneTo n x → OneTo n y → φ x ≡ φ y → x ≡ y

abbrev pub iterate : (ℕ → ℕ) → ℕ → ℕ → ℕ
iterate φ zero x = x
iterate φ (suc k) x = φ (iterate φ k x)

abbrev pub SameCycle : (ℕ → ℕ) → ℕ → ℕ → Type 0
SameCycle φ x y = (k : ℕ) × (iterate φ k x ≡ y)

-- n powers are enough: a cycle has at most n edges
unfoldable pub least_of_cycle : ℕ → (ℕ → ℕ) → ℕ → Bool
least_of_cycle n φ x = every n (λ k. leb x (iterate φ k x))

unfoldable pub cycles : ℕ → (ℕ → ℕ) → ℕ
cycles n φ = card n (least_of_cycle n φ)

unfoldable pub period : ℕ → (ℕ → ℕ) → ℕ → ℕ
period n φ x = first_passing n (λ k. eqb (iterate φ k x) x) 1

abbrev pub cycle_lengths : ℕ → (ℕ → ℕ) → List ℕ
cycle_lengths n φ = map (period n φ) (down n)

unfoldable pub fixed_points : ℕ → (ℕ → ℕ) → ℕ
fixed_points n g = card n (λ x. eqb (g x) x)

-- its cycles are the cusps of the subgroup of PSL2(Z); a cycle's length is the cusp's width
abbrev pub cusp_map : (ℕ → ℕ) → (ℕ → ℕ) → ℕ → ℕ
cusp_map f g x = f (g x)

-- the number of elliptic points of order 2
abbrev pub e2 : ℕ → (ℕ → ℕ) → (ℕ → ℕ) → ℕ
e2 n f g = fixed_points n g

-- the number of elliptic points of order 3
abbrev pub e3 : ℕ → (ℕ → ℕ) → (ℕ → ℕ) → ℕ
e3 n f g = fixed_points n f

-- the number of cusps
abbrev pub c : ℕ → (ℕ → ℕ) → (ℕ → ℕ) → ℕ
c n f g = cycles n (cusp_map f g)

-- 12 + n - 3 e2 - 4 e3 - 6 c: twelve times the genus
unfoldable pub t : ℕ → (ℕ → ℕ) → (ℕ → ℕ) → ℤ
t n f g = sub_ℕ (12 + n) (3 * e2 n f g + 4 * e3 n f g + 6 * c n f g)

-- the least common multiple of the cusp widths (Wohlfahrt's level), a number of any size
abbrev pub level : ℕ → (ℕ → ℕ) → (ℕ → ℕ) → ℕ
level n f g = least_common_multiple (cycle_lengths n (cusp_map f g))
