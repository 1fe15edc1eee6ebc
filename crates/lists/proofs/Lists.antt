-- Laws of lists: membership, no repeats, places, a map's entries, a statement for each element.
use mathlib.Core.Path.{◌≡◌, refl, sym, ap, ◌∙◌, subst}
use mathlib.Core.Logic.{◌≢◌, ◌⊎◌, inl, inr, ⊎_elim, ◌↔◌}
use mathlib.Core.Bool.{Bool, true, false, cond}
use mathlib.Core.List.Memᴰ
use mathlib.Core.List.{List, [], ◌∷◌, ◌++◌, Memᴰ}
use Prim.Native.Nat.{ℕ, zero, suc, ◌+◌, ◌-◌, ◌≤◌, ◌<◌}
use native.Mathlib.Nat.{not-suc-le-zero, le_of_suc-le-suc}
use native.Mathlib.Omega.{arith}
use lib.Dec.{eqb}
use lib.ListN.{length, get_or, set, take, drop, replicate, length-set, length-append, get_or-append}
use lib.Seq.{get_or-set_same, get_or-set_other, get_or-append-add, set-append_left, take_all}
use Rattle.lists.specs.Lists.{at, put, tabulate, Has, Distinct, All, has, find, remove_at}
use Rattle.lists.specs.Ranges.{OneTo}
use Rattle.lists.proofs.Tests.{eqb_same, eqb-ne, same?}

-- ---- membership

pub has-true : (x : ℕ) (l : List ℕ) → Has x l → has x l ≡ true
has-true x [] h = absurd h
has-true x (y ∷ l) (inl e) = rw (e, eqb_same y)
has-true x (y ∷ l) (inr h) = go (eqb x y) (has-true x l h)
  where
    go : (b : Bool) → has x l ≡ true → cond b true (has x l) ≡ true
    go true e = refl
    go false e = e

pub has-false : (x : ℕ) (l : List ℕ) → ¬ Has x l → has x l ≡ false
has-false x [] n = refl
has-false x (y ∷ l) n = rw (eqb-ne x y (λ e. n (inl e))) (has-false x l (λ h. n (inr h)))

pub has? : (x : ℕ) (l : List ℕ) → Has x l ⊎ (¬ Has x l)
has? x [] = inr (λ h. h)
has? x (y ∷ l) = go (same? x y) (has? x l)
  where
    go : (x ≡ y) ⊎ (x ≢ y) → Has x l ⊎ (¬ Has x l) → Has x (y ∷ l) ⊎ (¬ Has x (y ∷ l))
    go (inl e) r = inl (inl e)
    go (inr n) (inl h) = inl (inr h)
    go (inr n) (inr m) = inr (⊎_elim n m)

-- ---- one more at the end

pub has-snoc : (x : ℕ) (l : List ℕ) (y : ℕ) → Has x (l ++ (y ∷ [])) → Has x l ⊎ (x ≡ y)
has-snoc x [] y (inl e) = inr e
has-snoc x [] y (inr h) = absurd h
has-snoc x (z ∷ l) y (inl e) = inl (inl e)
has-snoc x (z ∷ l) y (inr h) = ⊎_elim (λ i. inl (inr i)) inr (has-snoc x l y h)

pub snoc-has : (x : ℕ) (l : List ℕ) (y : ℕ) → Has x l ⊎ (x ≡ y) → Has x (l ++ (y ∷ []))
snoc-has x [] y (inl h) = absurd h
snoc-has x [] y (inr e) = inl e
snoc-has x (z ∷ l) y (inl (inl e)) = inl e
snoc-has x (z ∷ l) y (inl (inr h)) = inr (snoc-has x l y (inl h))
snoc-has x (z ∷ l) y (inr e) = inr (snoc-has x l y (inr e))

pub distinct_snoc : (l : List ℕ) (y : ℕ) → Distinct l → ¬ Has y l → Distinct (l ++ (y ∷ []))
distinct_snoc [] y a n = (λ h. h, tt)
distinct_snoc (z ∷ l) y a n = (λ h. ⊎_elim a.0 (λ e. n (inl (sym e))) (has-snoc z l y h), distinct_snoc l y a.1 (λ h. n (inr h)))

-- ---- places

pub find-lt : (x : ℕ) (l : List ℕ) → Has x l → find x l < length l
find-lt x [] h = absurd h
find-lt x (y ∷ l) h = go (same? x y) h (find-lt x l)
  where
    go : (x ≡ y) ⊎ (x ≢ y) → Has x (y ∷ l) → (Has x l → find x l < length l) → find x (y ∷ l) < suc (length l)
    go (inl e) h k = rw (e, eqb_same y) (omega arith)
    go (inr n) (inl e) k = absurd (n e)
    go (inr n) (inr h) k = rw (eqb-ne x y n) (let i = k h in omega arith)

pub get_or-find : (x : ℕ) (l : List ℕ) → Has x l → get_or l (find x l) 0 ≡ x
get_or-find x [] h = absurd h
get_or-find x (y ∷ l) h = go (same? x y) h (get_or-find x l)
  where
    go : (x ≡ y) ⊎ (x ≢ y) → Has x (y ∷ l) → (Has x l → get_or l (find x l) 0 ≡ x) → get_or (y ∷ l) (find x (y ∷ l)) 0 ≡ x
    go (inl e) h k = rw (e, eqb_same y)
    go (inr n) (inl e) k = absurd (n e)
    go (inr n) (inr h) k = rw (eqb-ne x y n) (k h)

pub has_get_d : (l : List ℕ) (d : ℕ) → d < length l → Has (get_or l d 0) l
has_get_d [] d h = absurd (not-suc-le-zero h)
has_get_d (y ∷ l) zero h = inl refl
has_get_d (y ∷ l) (suc d) h = inr (has_get_d l d (le_of_suc-le-suc h))

pub find-get_or : (l : List ℕ) (d : ℕ) → Distinct l → d < length l → find (get_or l d 0) l ≡ d
find-get_or [] d a h = absurd (not-suc-le-zero h)
find-get_or (y ∷ l) zero a h = rw eqb_same
find-get_or (y ∷ l) (suc d) a h = rw (eqb-ne (get_or l d 0) y (λ e. a.0 (rw e at (has_get_d l d (le_of_suc-le-suc h))))) (ap suc (find-get_or l d a.1 (le_of_suc-le-suc h)))

pub remove_at-has : (d : ℕ) (l : List ℕ) (x : ℕ) → Has x (remove_at d l) → Has x l
remove_at-has d [] x h = h
remove_at-has zero (y ∷ l) x h = inr h
remove_at-has (suc d) (y ∷ l) x (inl e) = inl e
remove_at-has (suc d) (y ∷ l) x (inr h) = inr (remove_at-has d l x h)

pub remove_at-not : (d : ℕ) (l : List ℕ) → Distinct l → d < length l → ¬ Has (get_or l d 0) (remove_at d l)
remove_at-not d [] a h m = not-suc-le-zero h
remove_at-not zero (y ∷ l) a h m = a.0 m
remove_at-not (suc d) (y ∷ l) a h (inl e) = a.0 (rw e at (has_get_d l d (le_of_suc-le-suc h)))
remove_at-not (suc d) (y ∷ l) a h (inr m) = remove_at-not d l a.1 (le_of_suc-le-suc h) m

pub remove_at-other : (d : ℕ) (l : List ℕ) (x : ℕ) → Has x l → x ≢ get_or l d 0 → Has x (remove_at d l)
remove_at-other d [] x h n = h
remove_at-other zero (y ∷ l) x (inl e) n = absurd (n e)
remove_at-other zero (y ∷ l) x (inr h) n = h
remove_at-other (suc d) (y ∷ l) x (inl e) n = inl e
remove_at-other (suc d) (y ∷ l) x (inr h) n = inr (remove_at-other d l x h n)

pub distinct-remove_at : (d : ℕ) (l : List ℕ) → Distinct l → Distinct (remove_at d l)
distinct-remove_at d [] a = tt
distinct-remove_at zero (y ∷ l) a = a.1
distinct-remove_at (suc d) (y ∷ l) a = (λ h. a.0 (remove_at-has d l y h), distinct-remove_at d l a.1)

pub length-remove_at : (d : ℕ) (l : List ℕ) → d < length l → suc (length (remove_at d l)) ≡ length l
length-remove_at d [] h = absurd (not-suc-le-zero h)
length-remove_at zero (y ∷ l) h = refl
length-remove_at (suc d) (y ∷ l) h = ap suc (length-remove_at d l (le_of_suc-le-suc h))

-- a list without repeats, whose members another has, is no longer than that
pub pigeons : (a b : List ℕ) → Distinct a → ((x : ℕ) → Has x a → Has x b) → length a ≤ length b
pigeons [] b p s = omega arith
pigeons (x ∷ a) b p s = let i = pigeons a (remove_at (find x b) b) p.1 (λ y h. remove_at-other (find x b) b y (s y (inr h)) (λ e. p.0 (rw (e ∙ get_or-find x b (s x (inl refl))) at h))) in
    let j = length-remove_at (find x b) b (find-lt x b (s x (inl refl))) in omega arith

-- ---- a map's entries

pub length-put : (s : List ℕ) (k v : ℕ) → length (put s k v) ≡ length s
length-put s zero v = refl
length-put s (suc k) v = length-set s k v

pub at-put-same : (s : List ℕ) (k v : ℕ) → OneTo (length s) k → at (put s k v) k ≡ v
at-put-same s zero v e = absurd (omega arith)
at-put-same s (suc k) v e = get_or-set_same s k v 0 e.1

pub at-put-other : (s : List ℕ) (k v j : ℕ) → j ≢ k → at (put s k v) j ≡ at s j
at-put-other s zero v j n = refl
at-put-other s (suc k) v zero n = refl
at-put-other s (suc k) v (suc j) n = get_or-set_other s k j v 0 (λ e. n (ap suc e))

pub at_left : (s t : List ℕ) (j : ℕ) → j ≤ length s → at (s ++ t) j ≡ at s j
at_left s t zero h = refl
at_left s t (suc j) h = get_or-append s t 0 j h

pub put-left : (s t : List ℕ) (k v : ℕ) → OneTo (length s) k → put (s ++ t) k v ≡ put s k v ++ t
put-left s t zero v e = absurd (omega arith)
put-left s t (suc k) v e = set-append_left s t k v e.1

pub at_right : (s t : List ℕ) (j i : ℕ) → j ≡ suc (length s + i) → at (s ++ t) j ≡ get_or t i 0
at_right s t zero i e = absurd (omega arith)
at_right s t (suc j) i e = rw inj (get_or-append-add s t i 0)
  where
    inj : j ≡ length s + i
    inj = omega arith

-- entry x stands at the place x - 1, where the code reads and writes it
pub at_place : (s : List ℕ) (x : ℕ) → 1 ≤ x → get_or s (x - 1) 0 ≡ at s x
at_place s zero h = absurd (omega arith)
at_place s (suc i) h = let e : suc i - 1 ≡ i = omega arith in rw e

pub put-place : (s : List ℕ) (x v : ℕ) → 1 ≤ x → set s (x - 1) v ≡ put s x v
put-place s zero v h = absurd (omega arith)
put-place s (suc i) v h = let e : suc i - 1 ≡ i = omega arith in rw e

-- what holds at each place holds of each entry
pub places-edges : (P : ℕ → Type 0) (s : List ℕ) → ((k : ℕ) → k < length s → P (get_or s k 0)) ↔ ((x : ℕ) → OneTo (length s) x → P (at s x))
places-edges P s = (to, λ a k l. a (suc k) (omega arith))
  where
    to : ((k : ℕ) → k < length s → P (get_or s k 0)) → (x : ℕ) → OneTo (length s) x → P (at s x)
    to a zero e = absurd (omega arith)
    to a (suc i) e = a i e.1

pub at-zeros : (n x : ℕ) → at (replicate n 0) x ≡ 0
at-zeros n zero = refl
at-zeros zero (suc i) = refl
at-zeros (suc n) (suc zero) = refl
at-zeros (suc n) (suc (suc i)) = at-zeros n (suc i)

pub drop-zeros : (m n : ℕ) → n ≤ m → drop {A = ℕ} n (replicate m 0) ≡ replicate (m - n) 0
drop-zeros m zero h = let e : m - 0 ≡ m = omega arith in rw e
drop-zeros zero (suc n) h = absurd (omega arith)
drop-zeros (suc m) (suc n) h = let e : suc m - suc n ≡ m - n = omega arith in rw e (drop-zeros m n (omega arith))

pub length-listed : (f : ℕ → ℕ) (n : ℕ) → length (tabulate f n) ≡ n
length-listed f zero = refl
length-listed f (suc n) = simp (length-append, length-listed f n) (omega arith)

pub at_listed : (f : ℕ → ℕ) (n x : ℕ) → OneTo n x → at (tabulate f n) x ≡ f x
at_listed f zero x e = absurd (omega arith)
at_listed f (suc n) x e = go (same? x (suc n)) (at_listed f n x)
  where
    go : (x ≡ suc n) ⊎ (x ≢ suc n) → (OneTo n x → at (tabulate f n) x ≡ f x) → at (tabulate f (suc n)) x ≡ f x
    go (inl q) k = rw q (at_right (tabulate f n) (f (suc n) ∷ []) (suc n) 0 (rw length-listed (omega arith)))
    go (inr q) k = at_left (tabulate f n) (f (suc n) ∷ []) x (rw length-listed (omega arith)) ∙ k (omega arith)

-- the elements after the first, as the code hands them on: a part of the list
pub rest-is : (x : ℕ) (s : List ℕ) → take (length (x ∷ s) - 1) (drop 1 (x ∷ s)) ≡ s
rest-is x s = take_all (length (x ∷ s) - 1) s (omega arith)

pub length-0 : (s : List ℕ) → length s ≡ 0 → s ≡ []
length-0 [] e = refl
length-0 (x ∷ s) e = absurd (omega arith)

pub length-1 : (s : List ℕ) (a : ℕ) → length (s ++ (a ∷ [])) ≡ suc (length s)
length-1 s a = simp length-append (omega arith)

pub length-3 : (s : List ℕ) (a b c : ℕ) → length (s ++ (a ∷ b ∷ c ∷ [])) ≡ suc (suc (suc (length s)))
length-3 s a b c = simp length-append (omega arith)

-- ---- a statement for each element

module _ {A : Type 0} where
  pub all_append : (P : A → Type 0) (s t : List A) → All P s → All P t → All P (s ++ t)
  all_append P [] t a b = b
  all_append P (x ∷ s) t a b = (a.0, all_append P s t a.1 b)

  pub all_map : (P Q : A → Type 0) → ((x : A) → P x → Q x) → (s : List A) → All P s → All Q s
  all_map P Q k [] a = tt
  all_map P Q k (x ∷ s) a = (k x a.0, all_map P Q k s a.1)

  -- z is what get_or gives past the end
  pub all-at : (P : A → Type 0) (s : List A) (i : ℕ) (z : A) → All P s → i < length s → P (get_or s i z)
  all-at P [] i z a h = absurd (not-suc-le-zero h)
  all-at P (x ∷ s) zero z a h = a.0
  all-at P (x ∷ s) (suc i) z a h = all-at P s i z a.1 (le_of_suc-le-suc h)

  pub all-mem : (P : A → Type 0) (s : List A) {x : A} → All P s → Memᴰ x s → P x
  all-mem P [] a m = absurd (Memᴰ.not-nil m)
  all-mem P (y ∷ s) {x} a m = ⊎_elim {C = P x} (λ e. subst P (sym e) a.0) (λ n. all-mem P s a.1 n) (Memᴰ.cases_cons m)

pub all-remove_at : (P : ℕ → Type 0) (d : ℕ) (s : List ℕ) → All P s → All P (remove_at d s)
all-remove_at P d [] a = tt
all-remove_at P zero (x ∷ s) a = a.1
all-remove_at P (suc d) (x ∷ s) a = (a.0, all-remove_at P d s a.1)

pub all-has : (P : ℕ → Type 0) (l : List ℕ) (x : ℕ) → All P l → Has x l → P x
all-has P [] x a h = absurd h
all-has P (y ∷ l) x a (inl e) = rw e a.0
all-has P (y ∷ l) x a (inr h) = all-has P l x a.1 h
