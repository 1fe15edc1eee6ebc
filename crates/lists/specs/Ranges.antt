-- The numbers 1 to n, and what is said of all of them at once; consecutive numbers, and a search among them.
--
--   OneTo n x             x is one of 1..n: an edge of a diagram of size n
--   every n t             the test t holds at each of 1..n
--   card n t              how many of 1..n pass the test t
--   sum n t               t 1 + .. + t n
--   first_passing m t k    the first of k, k + 1, .., m of them, that passes the test t; k + m where none does
--   down n                the list n, .., 2, 1
--   stretch p m           the list p, p + 1, .. of m numbers
use Rattle.std.specs.Prelude.{Bool, true, false, cond, List, [], ◌∷◌, ℕ, zero, suc, ◌+◌, ◌≤◌}

abbrev pub OneTo : ℕ → ℕ → Type 0
OneTo n x = (1 ≤ x) × (x ≤ n)

abbrev pub every : ℕ → (ℕ → Bool) → Bool
every zero t = true
every (suc n) t = cond (t (suc n)) (every n t) false

abbrev pub card : ℕ → (ℕ → Bool) → ℕ
card zero t = 0
card (suc n) t = cond (t (suc n)) 1 0 + card n t

abbrev pub sum : ℕ → (ℕ → ℕ) → ℕ
sum zero t = 0
sum (suc n) t = t (suc n) + sum n t

abbrev pub first_passing : ℕ → (ℕ → Bool) → ℕ → ℕ
first_passing zero t k = k
first_passing (suc m) t k = cond (t k) k (first_passing m t (suc k))

abbrev pub down : ℕ → List ℕ
down zero = []
down (suc n) = suc n ∷ down n

abbrev pub stretch : ℕ → ℕ → List ℕ
stretch p zero = []
stretch p (suc m) = p ∷ stretch (suc p) m
