-- Laws of entries that are put back, of a list's beginning, and of a label that goes back into the stack.
use mathlib.Core.Path.{◌≡◌, refl, sym, ap, ◌∙◌}
use mathlib.Core.Logic.{◌≢◌, ◌⊎◌, inl, inr}
use mathlib.Core.List.{List, [], ◌∷◌, ◌++◌, append_assoc}
use Prim.Native.Nat.{ℕ, zero, suc, ◌+◌, ◌-◌, ◌≤◌, ◌<◌}
use native.Mathlib.Nat.{not-suc-le-zero}
use native.Mathlib.Omega.{arith}
use lib.ListN.{length, get_or, set, length-set}
use lib.Seq.{drop-append_seam, set-get_or, set-set, set_comm, get_or-set_same, get_or-set_other}
use Rattle.lists.specs.Lists.{at, put, remove_at, Has, All}
use Rattle.lists.specs.Ranges.{OneTo}
use Rattle.lists.proofs.Tests.{same?}
use Rattle.lists.proofs.Lists.{length-remove_at, length-put, at_place, put-place, put-left}
use Rattle.words.specs.Outputs.{overwrite}
use Rattle.words_spelling_stores.specs.Stores.{Shifted}
use Rattle.words_spelling_events.specs.Spelling.{StackHeld}
use Rattle.words_spelling_events.proofs.Lists.{stacked-same}

-- ---- entries put back

put-put : (s : List ℕ) (k a b : ℕ) → put (put s k a) k b ≡ put s k b
put-put s zero a b = refl
put-put s (suc k) a b = set-set s k a b

put-own : (s : List ℕ) (k : ℕ) → at s k ≡ k → put s k k ≡ s
put-own s zero e = refl
put-own s (suc k) e = ap (λ (v : ℕ). set s k v) (sym e) ∙ set-get_or s k 0

put-comm : (s : List ℕ) (k p a b : ℕ) → p ≢ k → put (put s k a) p b ≡ put (put s p b) k a
put-comm s zero p a b n = refl
put-comm s (suc k) zero a b n = refl
put-comm s (suc k) (suc p) a b n = set_comm s k p a b (λ e. n (ap suc (sym e)))

pub put_back : (s : List ℕ) (k c : ℕ) → at s k ≡ k → put (put s k c) k k ≡ s
put_back s k c e = put-put s k c k ∙ put-own s k e

-- two that were joined are parted
pub parted : (s : List ℕ) (k p : ℕ) → at s k ≡ k → at s p ≡ p → p ≢ k → put (put (put (put s k p) p k) p p) k k ≡ s
parted s k p e f n = rw (put-put (put s k p) p k p, put-comm s k p p p n, put-own s p f) (put_back s k p e)

-- the code's view: w is k, and v its partner, as indices
module _ (s : List ℕ) (k w v : ℕ) (e : w ≡ k) (f : v ≡ get_or s (w - 1) 0) (i : OneTo 64 k) (j : OneTo 64 (at s k)) where
  abbrev r : ℕ
  r = get_or s (w - 1) 0

  r-is : r ≡ at s k
  r-is = rw e (at_place s k i.0)

  pub partner-in : OneTo 64 v
  partner-in = rw (f, r-is) j

  pub partner-parted : (r ≡ at s k) × (set (set s (v - 1) r) (w - 1) k ≡ put (put s r r) k k)
  partner-parted = (
    r-is,
    ap (λ (x : ℕ). set (set s (x - 1) r) (w - 1) k) f
        ∙ ap (λ (y : ℕ). set (set s (r - 1) r) (y - 1) k) e
        ∙ rw (put-place s r r (rw r-is j.0), put-place (put s r r) k k i.0),
  )

-- ---- what a list begins with

pub begins : (s t b : List ℕ) → b ≡ s ++ t → b ≡ overwrite s b
begins s t b e = rw (e, drop-append_seam)

pub begins-less : (s t u b : List ℕ) → b ≡ (s ++ t) ++ u → b ≡ overwrite s b
begins-less s t u b e = begins s (t ++ u) b (e ∙ append_assoc s t u)

-- the entry of k put back, and what was given after s
pub begins-back : (s t u b : List ℕ) (k c : ℕ) → OneTo (length s) k → at s k ≡ k → b ≡ (put s k c ++ t) ++ u → set b (k - 1) k ≡ overwrite s (set b (k - 1) k)
begins-back s t u b k c i e f = begins s (t ++ u) (set b (k - 1) k)
    (rw (put-place b k k i.0, f, append_assoc, put-left (put s k c) (t ++ u) k k (rw length-put i), put_back s k c e))

pub begins-parted : (s u b : List ℕ) (k p : ℕ) → OneTo (length s) k → OneTo (length s) p → at s k ≡ k → at s p ≡ p → p ≢ k → b ≡ put (put s k p) p k ++ u
    → put (put b p p) k k ≡ overwrite s (put (put b p p) k k)
begins-parted s u b k p i j e f n g = begins s u (put (put b p p) k k)
    (rw (g, put-left (put (put s k p) p k) u p p (simp length-put j), put-left (put (put (put s k p) p k) p p) u k k (simp length-put i), parted s k p e f n))

-- ---- the stack

pub all_of : (P : ℕ → Type 0) (l : List ℕ) → ((x : ℕ) → Has x l → P x) → All P l
all_of P [] k = tt
all_of P (x ∷ l) k = (k x (inl refl), all_of P l (λ y h. k y (inr h)))

-- q, with the label at a place put in, is p
pub stacked-uncut : (p q r : List ℕ) (d place end : ℕ) → Shifted p q place end → d < length r → place + suc d ≡ length r → length r ≤ suc end → get_or p place 0 ≡ get_or r d 0
    → StackHeld q (remove_at d r) → StackHeld p r
stacked-uncut p q [] d place end s l e m f h = absurd (not-suc-le-zero l)
stacked-uncut p q (k ∷ r) zero place end s l e m f h =
    let i : place ≡ length r = omega arith in
    (rw i at f, stacked-same q p r (λ j g. sym (s.below j (omega arith))) h)
stacked-uncut p q (k ∷ r) (suc d) place end s l e m f h =
    let z = length-remove_at d r (omega arith) in
    (rw (← z) (sym (s.moved (length (remove_at d r)) (omega arith) (omega arith)) ∙ h.0), stacked-uncut p q r d place end s (omega arith) (omega arith) (omega arith) f h.1)

-- the loop that moves entries up, from the upper end: q is p with those from the place i on moved
pub record Rising (p q : List ℕ) (i end : ℕ) : Type 0 where
  pub long : length q ≡ length p
  pub below : (j : ℕ) → j ≤ i → get_or q j 0 ≡ get_or p j 0
  pub moved : (j : ℕ) → i ≤ j → j < end → get_or p j 0 ≡ get_or q (suc j) 0

pub rising_none : (p : List ℕ) (end : ℕ) → Rising p p end end
rising_none p end = record { long = refl; below = λ j l. refl; moved = λ j l m. absurd (omega arith) }

pub rising-more : (p q : List ℕ) (i end : ℕ) → 1 ≤ i → i ≤ end → end < length p → Rising p q i end → Rising p (set q i (get_or q (i - 1) 0)) (i - 1) end
rising-more p q zero end a l m s = absurd (omega arith)
rising-more p q (suc i) end a l m s =
    let e : suc i - 1 ≡ i = omega arith in
    rw e record {
      long = length-set q (suc i) _ ∙ s.long;
      below = λ j h. get_or-set_other q (suc i) j _ 0 (λ g. omega arith) ∙ s.below j (omega arith);
      moved = λ j h g. go j h g (same? j i);
    }
  where
    go : (j : ℕ) → i ≤ j → j < end → (j ≡ i) ⊎ (j ≢ i) → get_or p j 0 ≡ get_or (set q (suc i) (get_or q i 0)) (suc j) 0
    go j h g (inl f) = rw (f, get_or-set_same q (suc i) (get_or q i 0) 0 (let z = s.long in omega arith)) (sym (s.below i (omega arith)))
    go j h g (inr n) = s.moved j (omega arith) g ∙ sym (get_or-set_other q (suc i) (suc j) (get_or q i 0) 0 (λ f. n (omega arith)))

pub rising-put : (p q : List ℕ) (place end v : ℕ) → place ≤ end → end < length p → Rising p q place end → Shifted (set q place v) p place end × (get_or (set q place v) place 0 ≡ v)
rising-put p q place end v l m s = (
  record {
    long = sym (length-set q place v ∙ s.long);
    below = λ j h. sym (get_or-set_other q place j v 0 (λ g. omega arith) ∙ s.below j (omega arith));
    moved = λ j h g. s.moved j h g ∙ sym (get_or-set_other q place (suc j) v 0 (λ f. omega arith));
  },
  get_or-set_same q place v 0 (let z = s.long in omega arith),
)
