-- t: the difference of two small numbers as a signed number, which fits 32 bits.
use mathlib.Core.Path.{◌≡◌, refl, sym, ap, ◌∙◌}
use mathlib.Core.Bool.{Bool, true, false, cond}
use Prim.Native.Nat.{ℕ, zero, suc, ◌+◌, ◌-◌, ◌*◌, ◌<◌}
use native.Mathlib.Omega.{arith}
use lib.Dec.{ltb}
use lib.IntN.{pos, negsuc, sub_ℕ, ◌-ℤ◌}
use lib.Signed.{mag}
use mir.Val.{to_z, of_z, SFits}
use mir.Syntax.{w32}
use mir.ValLaws.{to_z_pos, to_z-of_z}
use Rattle.lists.proofs.Tests.{lt-false}
use Rattle.invariants_cycles.specs.Cycles.{e2, e3, c, t}

pos-sub : (a b : ℕ) → pos a -ℤ pos b ≡ sub_ℕ a b
pos-sub a zero = ap pos (none a) ∙ ap (λ less. cond less (negsuc (0 - suc a)) (pos (a - 0))) (sym (lt-false a 0 (omega arith)))
  where
    none : (a : ℕ) → a + 0 ≡ a - 0
    none a = omega arith
pos-sub a (suc b) = refl

sub-mag : (a b m : ℕ) → a < m → b < m → mag (sub_ℕ a b) < m
sub-mag a b m h k = go (ltb a b)
  where
    go : (less : Bool) → mag (cond less (negsuc (b - suc a)) (pos (a - b))) < m
    go true = omega arith
    go false = omega arith

module _ (a b : ℕ) (h : a < 2147483648) (k : b < 2147483648) where
  difference-is : to_z w32 a -ℤ to_z w32 b ≡ sub_ℕ a b
  difference-is = ap (λ z. z -ℤ to_z w32 b) (to_z_pos w32 a h) ∙ ap (λ z. pos a -ℤ z) (to_z_pos w32 b k) ∙ pos-sub a b

  pub difference-fits : SFits w32 (to_z w32 a -ℤ to_z w32 b)
  difference-fits = record { sfits = rw difference-is (sub-mag a b 2147483648 h k) }

  pub difference : to_z w32 (of_z w32 (to_z w32 a -ℤ to_z w32 b)) ≡ sub_ℕ a b
  difference = to_z-of_z w32 (to_z w32 a -ℤ to_z w32 b) difference-fits ∙ difference-is

pub t_of : (n : ℕ) (f g : ℕ → ℕ) (a b d : ℕ) → a ≡ e2 n f g → b ≡ e3 n f g → d ≡ c n f g → sub_ℕ (12 + n) (3 * a + 4 * b + 6 * d) ≡ t n f g
unfolding t
t_of n f g a b d p q r = rw (p, q, r)
