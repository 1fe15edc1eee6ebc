-- A least common multiple as a 64-bit number. One that has outgrown 64 bits divides every later one, so that it does not come back.
use mathlib.Core.Path.{◌≡◌, refl, sym}
use mathlib.Core.Logic.{◌≢◌, inl, inr}
use mathlib.Core.List.{[], ◌∷◌}
use Prim.Native.Nat.{ℕ, ◌*◌, ◌/◌, ◌^◌, ◌≤◌, ◌<◌}
use native.Mathlib.Nat.{mul-le-mul_right, div-mul-le_self, div-lt_iff_lt-mul, le_of_dvd}
use native.Mathlib.Omega.{arith}
use Rattle.invariants_multiples.specs.Multiples.{LeastCommonMultiple, GreatestCommonDivisor, least_common_multiple, Held}
use Rattle.invariants_multiples.proofs.Multiples.{lcm-is}
use Rattle.invariants_multiples.proofs.Divisors.{two-positive, lcm-by-gcd}

abbrev largest : ℕ
largest = 18446744073709551615

pub product-fits : (x b : ℕ) → x ≤ largest / b → x * b ≤ largest
product-fits x b h = let y = mul-le-mul_right b h in let z = div-mul-le_self largest b in omega arith

pub held_one : Held 1 1
held_one = inl (omega arith, omega arith, refl)

-- the number that stands for m is 0 exactly if m is beyond 64 bits
pub held-zero : {m r : ℕ} → Held m r → r ≡ 0 → 2 ^ 64 ≤ m
held-zero (inl h) z = let a = h.0 in let e = h.2 in absurd (omega arith)
held-zero (inr h) z = h.0

pub held-some : {m r : ℕ} → Held m r → r ≢ 0 → (1 ≤ m) × (m < 2 ^ 64) × (r ≡ m)
held-some (inl h) z = h
held-some (inr h) z = absurd (z h.1)

module _ {a b : ℕ} (q : 1 ≤ b) (m : ℕ) (H : Held m a) where
  L : 1 ≤ m → LeastCommonMultiple (b ∷ m ∷ []) (least_common_multiple (b ∷ m ∷ []))
  L p = lcm-is (b ∷ m ∷ []) (two-positive q p)

  pub stays-beyond : a ≡ 0 → Held (least_common_multiple (b ∷ m ∷ [])) 0
  stays-beyond z =
      let far = held-zero H z in
      let p : 1 ≤ m = omega arith in
      let more = le_of_dvd (L p).positive ((L p).multiple m (inr (inl refl))) in
      inr (omega arith, refl)

  module _ {g : ℕ} (some : a ≢ 0) (G : GreatestCommonDivisor a b g) where
    is : least_common_multiple (b ∷ m ∷ []) ≡ a / g * b
    is = let e = (held-some H some).2 in rw (← e) (sym (lcm-by-gcd (omega arith) q G))

    pub goes-beyond : largest / b < a / g → Held (least_common_multiple (b ∷ m ∷ [])) 0
    goes-beyond h = let k = (div-lt_iff_lt-mul {k = b} {x = largest} {y = a / g} q).0 h in inr (rw is (omega arith), refl)

    pub stays-held : a / g ≤ largest / b → Held (least_common_multiple (b ∷ m ∷ [])) (a / g * b)
    stays-held h =
        let k = product-fits (a / g) b h in
        let p = (L (held-some H some).0).positive in
        inl (p, rw is (omega arith), sym is)
