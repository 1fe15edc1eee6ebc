-- Laws of a number's sign and of its absolute value.
use mathlib.Core.Path.{◌≡◌, refl, sym, ap, ◌∙◌}
use mathlib.Core.Bool.{Bool, true, false, true≢false}
use mathlib.Core.List.{[], ◌∷◌}
use Prim.Native.Nat.{ℕ, suc, ◌+◌, ◌-◌, ◌<◌}
use native.Mathlib.Omega.{arith}
use lib.Dec.{T}
use lib.IntN.{ℤ, pos, negsuc, nat_abs, ◌-ℤ◌}
use lib.Signed.{mag, lt_z, non_neg, nat_abs-le}
use mir.Syntax.{w32, w64}
use mir.Val.{to_z, of_z, Fits, SFits}
use mir.ValLaws.{to_z-of_z}
use borrow.Author.Tests.{ltb-true}
use Rattle.lists.proofs.Tests.{lt-false}
use Rattle.words.specs.Letters.{decimal}
use Rattle.text_printing.specs.Printing.{Output, put, put_all, signed_pieces}

-- a test of the sign, as the code makes it
pub tested : (z : ℤ) → SFits w32 z → (b : Bool) → lt_z (to_z w32 (of_z w32 z)) (pos 0) ≡ b → lt_z z (pos 0) ≡ b
tested z f b e = ap (λ (x : ℤ). lt_z x (pos 0)) (sym (to_z-of_z w32 z f)) ∙ e

pub not_negative : (z : ℤ) → lt_z z (pos 0) ≡ false → T (non_neg z)
not_negative (pos n) e = tt
not_negative (negsuc n) e = absurd (true≢false e)

pub fits-wide : (z : ℤ) → mag z < 2147483648 → Fits w64 (nat_abs z)
fits-wide z h = record { fits = let m = nat_abs-le z h in omega arith }

pub opposite : (z : ℤ) → lt_z z (pos 0) ≡ true → negsuc 0 -ℤ z ≡ pos (mag z)
opposite (pos n) e = absurd (let h : n < 0 = ltb-true n 0 e in omega arith)
opposite (negsuc n) e = rw (lt-false (suc n) 1 (omega arith)) (ap pos (one_less n))
  where
    one_less : (n : ℕ) → suc n - 1 ≡ n
    one_less n = omega arith

pub absolute-negative : (z : ℤ) → lt_z z (pos 0) ≡ true → mag z + 1 ≡ nat_abs z
absolute-negative (pos n) e = absurd (let h : n < 0 = ltb-true n 0 e in omega arith)
absolute-negative (negsuc n) e = omega arith

signed-negative : (z : ℤ) (o : Output) → lt_z z (pos 0) ≡ true → put_all (signed_pieces z) o ≡ put (decimal (nat_abs z)) (put (45 ∷ []) o)
unfolding put_all signed_pieces
signed-negative (pos n) o e = absurd (let h : n < 0 = ltb-true n 0 e in omega arith)
signed-negative (negsuc n) o e = refl

signed-other : (z : ℤ) (o : Output) → lt_z z (pos 0) ≡ false → put_all (signed_pieces z) o ≡ put (decimal (nat_abs z)) o
unfolding put_all signed_pieces
signed-other (pos n) o e = refl
signed-other (negsuc n) o e = absurd (true≢false e)

-- what is put of a negative number, and of another
module _ (z : ℤ) (o : Output) (a : ℕ) (r : Output) where
  pub put-negative : (m : Output) → lt_z z (pos 0) ≡ true → a ≡ nat_abs z → m ≡ put (45 ∷ []) o → r ≡ put (decimal a) m → r ≡ put_all (signed_pieces z) o
  put-negative m e n p q = q ∙ rw (n, p) (sym (signed-negative z o e))

  pub put_other : lt_z z (pos 0) ≡ false → a ≡ nat_abs z → r ≡ put (decimal a) o → r ≡ put_all (signed_pieces z) o
  put_other e n q = q ∙ rw n (sym (signed-other z o e))
