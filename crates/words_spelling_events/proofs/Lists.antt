-- Laws of a word's items, of the stack, and of writing over the beginning of a list.
use mathlib.Core.Path.{◌≡◌, refl, ap, ◌∙◌}
use mathlib.Core.List.{List, [], ◌∷◌, ◌++◌, append_assoc}
use Prim.Native.Nat.{ℕ, zero, suc, ◌+◌, ◌-◌, ◌≤◌, ◌<◌}
use native.Mathlib.Nat.{not-suc-le-zero}
use native.Mathlib.Numerals.{add-one}
use native.Mathlib.Omega.{arith}
use lib.ListN.{length, get_or, set, drop}
use lib.Seq.{get_or-set_same, get_or-set_other, drop-cons}
use Rattle.lists.specs.Lists.{put, remove_at}
use Rattle.lists.specs.Ranges.{OneTo}
use Rattle.lists.proofs.Lists.{length-remove_at, length-put, length-1, put-place, put-left}
use Rattle.lists.specs.Overwriting.{overwrite}
use Rattle.lists.proofs.Overwriting.{over-one}
use Rattle.words_spelling_stores.specs.Stores.{set_three, Shifted}
use Rattle.words_spelling_events.specs.Spelling.{StackHeld}

-- the items from place i on begin with the one there
pub next-item : (w : List ℕ) (i : ℕ) → i < length w → drop i w ≡ get_or w i 0 ∷ drop (i + 1) w
next-item w i l = rw add-one (drop-cons w i 0 l)

-- an item that is not W, F or B is Jd
pub jump-item : (x d : ℕ) → (x ≡ 0 → ⊥) → (x ≡ 1 → ⊥) → (x ≡ 2 → ⊥) → d ≡ x - 3 → x ≡ suc (suc (suc d))
jump-item zero d a b e f = absurd (a refl)
jump-item (suc zero) d a b e f = absurd (b refl)
jump-item (suc (suc zero)) d a b e f = absurd (e refl)
jump-item (suc (suc (suc x))) d a b e f = omega arith

-- ---- the stack

pub stacked-same : (p q r : List ℕ) → ((j : ℕ) → j < length r → get_or q j 0 ≡ get_or p j 0) → StackHeld p r → StackHeld q r
stacked-same p q [] e h = tt
stacked-same p q (k ∷ r) e h = (e (length r) (omega arith) ∙ h.0, stacked-same p q r (λ j l. e j (omega arith)) h.1)

pub stacked-push : (stack r : List ℕ) (j v : ℕ) → j ≡ length r → j < length stack → StackHeld stack r → StackHeld (set stack j v) (v ∷ r)
stacked-push stack r j v e l h = (rw (← e) (get_or-set_same stack j v 0 l), stacked-same stack (set stack j v) r (λ i k. get_or-set_other stack j i v 0 (λ q. omega arith)) h)

-- d places below the top
pub stacked-at : (stack r : List ℕ) (d place : ℕ) → d < length r → place + suc d ≡ length r → StackHeld stack r → get_or stack place 0 ≡ get_or r d 0
stacked-at stack [] d place l e h = absurd (not-suc-le-zero l)
stacked-at stack (k ∷ r) zero place l e h = let q : place ≡ length r = omega arith in rw q h.0
stacked-at stack (k ∷ r) (suc d) place l e h = stacked-at stack r d place (omega arith) (omega arith) h.1

pub stacked-remove_at : (p q r : List ℕ) (d place end : ℕ) → Shifted p q place end → d < length r → place + suc d ≡ length r → length r ≤ suc end → StackHeld p r → StackHeld q (remove_at d r)
stacked-remove_at p q [] d place end s l e m h = absurd (not-suc-le-zero l)
stacked-remove_at p q (k ∷ r) zero place end s l e m h = stacked-same p q r (λ j i. s.below j (omega arith)) h.1
stacked-remove_at p q (k ∷ r) (suc d) place end s l e m h =
    let z = length-remove_at d r (omega arith) in
    (s.moved (length (remove_at d r)) (omega arith) (omega arith) ∙ rw z h.0, stacked-remove_at p q r d place end s (omega arith) (omega arith) (omega arith) h.1)

-- ---- a list whose beginning is written over

pub over-three : (s a : List ℕ) (i x y z : ℕ) → i ≡ length s → i + 3 ≤ length a → set_three (overwrite s a) i x y z ≡ overwrite (s ++ (x ∷ y ∷ z ∷ [])) a
over-three s a i x y z e l =
    ap (λ (t : List ℕ). set (set t (i + 1) y) (i + 2) z) (over-one s a i x e (omega arith))
    ∙ ap (λ (t : List ℕ). set t (i + 2) z) (over-one (s ++ (x ∷ [])) a (i + 1) y (rw length-1 (omega arith)) (omega arith))
    ∙ over-one ((s ++ (x ∷ [])) ++ (y ∷ [])) a (i + 2) z (simp length-1 (omega arith)) (omega arith)
    ∙ ap (λ (t : List ℕ). overwrite t a) joined
  where
    joined : ((s ++ (x ∷ [])) ++ (y ∷ [])) ++ (z ∷ []) ≡ s ++ (x ∷ y ∷ z ∷ [])
    joined = simp append_assoc

-- an entry already written
pub over-put : (s a : List ℕ) (k v : ℕ) → OneTo (length s) k → put (overwrite s a) k v ≡ overwrite (put s k v) a
over-put s a k v e = rw (put-left s (drop (length s) a) k v e, length-put)

pub over-set : (s a : List ℕ) (k v : ℕ) → OneTo (length s) k → set (overwrite s a) (k - 1) v ≡ overwrite (put s k v) a
over-set s a k v e = rw (put-place (overwrite s a) k v e.0) (over-put s a k v e)
