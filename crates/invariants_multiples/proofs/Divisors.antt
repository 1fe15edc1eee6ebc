-- Euclid's step, and the least common multiple of two numbers by their greatest common divisor.
use mathlib.Core.Path.{◌≡◌, refl, ap, ◌∙◌}
use mathlib.Core.Logic.{inl, inr}
use mathlib.Core.List.{[], ◌∷◌}
use Prim.Native.Nat.{ℕ, ◌*◌, ◌/◌, ◌%◌, ◌≤◌, ◌∣◌}
use native.Mathlib.Nat.{mul_comm, mul_right_comm, mul-pos, mul-le-mul_right, le_of_mul-le-mul_right, dvd_refl, dvd-zero, dvd-mul_left, dvd-mul_right, dvd-mod_iff, le_of_dvd, pos_of_dvd_of_pos, div-mul_cancel, dvd_of_mul-dvd-mul_right, mul-dvd-mul_left}
use native.Mathlib.Omega.{arith}
use Rattle.lists.specs.Lists.{Has}
use Rattle.invariants_multiples.specs.Multiples.{CommonMultiple, LeastCommonMultiple, GreatestCommonDivisor, least_common_multiple}
use Rattle.invariants_multiples.proofs.Multiples.{Positive, lcm-is, lcm-divides}

-- ---- Euclid

pub gcd-zero : (a : ℕ) → 1 ≤ a → GreatestCommonDivisor a 0 a
gcd-zero a p = record { left = dvd_refl a; right = dvd-zero a; greatest = λ d h k. le_of_dvd p h }

-- a and b have the common divisors that b and the rest of a have
pub gcd-step : (a b g : ℕ) → GreatestCommonDivisor b (a % b) g → GreatestCommonDivisor a b g
gcd-step a b g G = record {
  left = (dvd-mod_iff g {m = a} {n = b} G.left).0 G.right;
  right = G.left;
  greatest = λ d h k. G.greatest d k ((dvd-mod_iff d {m = a} {n = b} k).1 h);
}

-- ---- two numbers

-- what holds of a and of b holds of each number of their list
both : (P : ℕ → Type 0) {a b : ℕ} → P a → P b → (d : ℕ) → Has d (a ∷ b ∷ []) → P d
both P p q d (inl e) = rw e p
both P p q d (inr (inl e)) = rw e q
both P p q d (inr (inr h)) = absurd h

pub two-positive : {a b : ℕ} → 1 ≤ a → 1 ≤ b → Positive (a ∷ b ∷ [])
two-positive p q = both (λ d. 1 ≤ d) p q

two-multiple : {a b : ℕ} (m : ℕ) → a ∣ m → b ∣ m → CommonMultiple (a ∷ b ∷ []) m
two-multiple m p q = both (λ d. d ∣ m) p q

module _ {a b g : ℕ} (p : 1 ≤ a) (q : 1 ≤ b) (G : GreatestCommonDivisor a b g) where
  gcd-positive : 1 ≤ g
  gcd-positive = pos_of_dvd_of_pos G.left p

  abbrev l : ℕ
  l = least_common_multiple (b ∷ a ∷ [])

  L : LeastCommonMultiple (b ∷ a ∷ []) l
  L = lcm-is (b ∷ a ∷ []) (two-positive q p)

  -- what the least common multiple leaves of the product divides both
  abbrev e : ℕ
  e = a * b / l

  whole : e * l ≡ a * b
  whole = div-mul_cancel l (lcm-divides L (a * b) (two-multiple (a * b) (dvd-mul_left b a) (dvd-mul_right a b)))

  e-a : e ∣ a
  e-a = dvd_of_mul-dvd-mul_right e q (rw whole at (mul-dvd-mul_left b e (L.multiple b (inl refl))))

  e-b : e ∣ b
  e-b = dvd_of_mul-dvd-mul_right e p (rw (whole ∙ mul_comm a b) at (mul-dvd-mul_left a e (L.multiple a (inr (inl refl)))))

  parts : a / g * b * g ≡ a * b
  parts = mul_right_comm (a / g) b g ∙ ap (λ x. x * b) (div-mul_cancel g G.left)

  below : a / g * b ≤ l
  below = le_of_mul-le-mul_right (rw (parts, ← whole, mul_comm l g) (mul-le-mul_right l (G.greatest e e-a e-b))) gcd-positive

  above : l ≤ a / g * b
  above = L.least (a / g * b) positive (two-multiple (a / g * b) (dvd-mul_left b (a / g)) a_in)
    where
      positive : 1 ≤ a / g * b
      positive = pos_of_dvd_of_pos (dvd-mul_right (a / g * b) g) (rw parts (mul-pos p q))

      a_in : a ∣ a / g * b
      a_in = dvd_of_mul-dvd-mul_right a gcd-positive (rw parts (mul-dvd-mul_left g a G.right))

  pub lcm-by-gcd : a / g * b ≡ least_common_multiple (b ∷ a ∷ [])
  lcm-by-gcd = let x = below in let y = above in omega arith
