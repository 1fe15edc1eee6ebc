-- Which of two lists the lesser is, told from its length alone.
use mathlib.Core.Path.{◌≡◌, refl}
use mathlib.Core.Logic.{◌≢◌}
use mathlib.Core.Bool.{Bool, true, false, cond}
use mathlib.Core.List.{List, [], ◌∷◌}
use Prim.Native.Nat.{ℕ, zero, suc, ◌≤◌, ◌<◌}
use native.Mathlib.Omega.{arith}
use lib.Dec.{eqb}
use lib.ListN.{length, get_or, take}
use Rattle.lists.proofs.Tests.{lt-true, lt-false, eqb_same, eqb-ne}
use Rattle.words.specs.Order.{precedes, lesser}

-- the lesser has the length of the second exactly if it is the second, where the lengths are unlike
pub lesser-length : (u v : List ℕ) → length u ≢ length v → eqb (length (lesser u v)) (length v) ≡ precedes v u
lesser-length u v n = go (precedes v u)
  where
    go : (b : Bool) → eqb (length (cond b v u)) (length v) ≡ b
    go true = eqb_same (length v)
    go false = eqb-ne (length u) (length v) n

-- ---- lists of one length: a last item left off does not alter the order, nor does the other's where it is not the greater

pub without-last : (u v : List ℕ) (k : ℕ) → length u ≡ suc k → length v ≡ suc k → get_or v k 0 < get_or u k 0 → precedes (take k v) u ≡ precedes v u
without-last [] v k p q l = absurd (omega arith)
without-last (x ∷ u) [] k p q l = absurd (omega arith)
without-last (x ∷ u) (y ∷ v) zero p q l = rw (lt-true y x l)
without-last (x ∷ u) (y ∷ v) (suc k) p q l = rw (without-last u v k (omega arith) (omega arith) l)

pub without-last-of-first : (u v : List ℕ) (k : ℕ) → length u ≡ suc k → length v ≡ suc k → get_or u k 0 ≤ get_or v k 0 → precedes v (take k u) ≡ precedes v u
without-last-of-first [] v k p q l = absurd (omega arith)
without-last-of-first (x ∷ u) [] k p q l = absurd (omega arith)
without-last-of-first (x ∷ []) (y ∷ []) zero p q l = rw (lt-false y x l) (neither (eqb y x))
  where
    neither : (b : Bool) → false ≡ cond b false false
    neither true = refl
    neither false = refl
without-last-of-first (x ∷ []) (y ∷ z ∷ v) zero p q l = absurd (omega arith)
without-last-of-first (x ∷ z ∷ u) (y ∷ v) zero p q l = absurd (omega arith)
without-last-of-first (x ∷ u) (y ∷ v) (suc k) p q l = rw (without-last-of-first u v k (omega arith) (omega arith) l)
