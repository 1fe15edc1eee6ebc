-- The single list of the sizes 1 to n holds exactly the words of these sizes, in dictionary order; the words of a size stand in it in the order
-- of that size's listing. So each place has its word, the word at the next place is the next word, and after the last word there is none.
use mathlib.Core.Path.{◌≡◌, refl, sym, ap, ◌∙◌, subst}
use mathlib.Core.Logic.{◌≢◌, ◌⊎◌, inl, inr, ⊎_elim, ◌↔◌}
use mathlib.Core.Bool.{Bool, true, false, cond}
use mathlib.Core.List.Memᴰ
use mathlib.Core.List.{List, [], ◌∷◌, Memᴰ}
use Prim.Native.Nat.{ℕ, zero, suc, ◌≤◌, ◌<◌}
use native.Mathlib.Nat.{not-suc-le-zero}
use native.Mathlib.Omega.{arith}
use lib.Dec.{eqb}
use lib.ListN.{length, get_or}
use Rattle.lists.specs.Lists.{All}
use Rattle.lists.specs.Ranges.{OneTo}
use Rattle.lists.proofs.Tests.{same?, lt?, eqb-true, eqb-eq}
use Rattle.lists.proofs.Lists.{all-mem}
use Rattle.words.specs.Order.{Before}
use Rattle.words.specs.Shape.{Word}
use Rattle.words.proofs.Order.{before-irrefl, before-antisym}
use Rattle.listing.specs.Listing.{listing, Sorted}
use Rattle.listing.proofs.Listing.{listing-words, listing-complete, listing-sorted}
use Rattle.listing.proofs.Positions.{sorted-at, sorted-once}
use Rattle.listing.proofs.Spelled.{black-length}
use Rattle.upto.specs.Upto.{listings, upto, total, word_upto, Listed, size_of, of_size}
use Rattle.upto.proofs.Order.{mem-in_order, sorted-in_order, sorted-same}

-- ---- what it holds, and in which order

pub upto-sorted : (n : ℕ) → Sorted (upto n)
unfolding upto
upto-sorted n = sorted-in_order (listings n)

from-listings : (n : ℕ) (w : List ℕ) → Memᴰ w (listings n) → Listed n w
from-listings zero w i = absurd (Memᴰ.not-nil i)
from-listings (suc n) w i = go (Memᴰ.append_cases (listings n) i) (from-listings n w)
  where
    go : Memᴰ w (listings n) ⊎ Memᴰ w (listing (suc n)) → (Memᴰ w (listings n) → Listed n w) → Listed (suc n) w
    go (inl j) k = let l = k j in let o = l.1 in (l.0, omega arith, l.2)
    go (inr j) k = (suc n, omega arith, all-mem (Word (suc n)) (listing (suc n)) (listing-words (suc n)) j)

to-listings : (n m : ℕ) (w : List ℕ) → OneTo n m → Word m w → Memᴰ w (listings n)
to-listings zero m w o a = absurd (omega arith)
to-listings (suc n) m w o a = go (same? m (suc n)) (to-listings n m w)
  where
    go : (m ≡ suc n) ⊎ (m ≢ suc n) → (OneTo n m → Word m w → Memᴰ w (listings n)) → Memᴰ w (listings (suc n))
    go (inl e) k = Memᴰ.append_right (listings n) (listing-complete (suc n) w (subst (λ (x : ℕ). Word x w) e a))
    go (inr e) k = Memᴰ.append_left (listing (suc n)) (k (omega arith) a)

pub upto-exactly : (n : ℕ) (w : List ℕ) → Memᴰ w (upto n) ↔ Listed n w
unfolding upto
upto-exactly n w = (λ i. from-listings n w ((mem-in_order (listings n) w).0 i), λ l. (mem-in_order (listings n) w).1 (to-listings n l.0 w l.1 l.2))

-- ---- the words of one size

from-of_size : (m : ℕ) (ws : List (List ℕ)) (w : List ℕ) → Memᴰ w (of_size m ws) → Memᴰ w ws × (size_of w ≡ m)
from-of_size m [] w i = absurd (Memᴰ.not-nil i)
from-of_size m (v ∷ ws) w i = go (eqb (size_of v) m) refl i (from-of_size m ws w)
  where
    go : (b : Bool) → eqb (size_of v) m ≡ b → Memᴰ w (cond b (v ∷ of_size m ws) (of_size m ws)) → (Memᴰ w (of_size m ws) → Memᴰ w ws × (size_of w ≡ m)) → Memᴰ w (v ∷ ws) × (size_of w ≡ m)
    go true e i k = ⊎_elim (λ q. (Memᴰ.head q, ap size_of q ∙ eqb-true (size_of v) m e)) (λ j. let r = k j in (Memᴰ.tail r.0, r.1)) (Memᴰ.cases_cons i)
    go false e i k = let r = k i in (Memᴰ.tail r.0, r.1)

to-of_size : (m : ℕ) (ws : List (List ℕ)) (w : List ℕ) → Memᴰ w ws → size_of w ≡ m → Memᴰ w (of_size m ws)
to-of_size m [] w i s = i
to-of_size m (v ∷ ws) w i s = go (Memᴰ.cases_cons i) (λ j. to-of_size m ws w j s)
  where
    skip : (b : Bool) → Memᴰ w (of_size m ws) → Memᴰ w (cond b (v ∷ of_size m ws) (of_size m ws))
    skip true j = Memᴰ.tail j
    skip false j = j

    go : (w ≡ v) ⊎ Memᴰ w ws → (Memᴰ w ws → Memᴰ w (of_size m ws)) → Memᴰ w (of_size m (v ∷ ws))
    go (inl e) k = rw (eqb-eq (size_of v) m (sym (ap size_of e) ∙ s)) (Memᴰ.head e)
    go (inr j) k = skip (eqb (size_of v) m) (k j)

all-of_size : (P : List ℕ → Type 0) (m : ℕ) (ws : List (List ℕ)) → All P ws → All P (of_size m ws)
all-of_size P m [] a = tt
all-of_size P m (w ∷ ws) a = go (eqb (size_of w) m) (all-of_size P m ws a.1)
  where
    go : (b : Bool) → All P (of_size m ws) → All P (cond b (w ∷ of_size m ws) (of_size m ws))
    go true k = (a.0, k)
    go false k = k

sorted-of_size : (m : ℕ) (ws : List (List ℕ)) → Sorted ws → Sorted (of_size m ws)
sorted-of_size m [] s = tt
sorted-of_size m (w ∷ ws) s = go (eqb (size_of w) m) (sorted-of_size m ws s.1)
  where
    go : (b : Bool) → Sorted (of_size m ws) → Sorted (cond b (w ∷ of_size m ws) (of_size m ws))
    go true k = (all-of_size (Before w) m ws s.0, k)
    go false k = k

pub upto-of-size : (n m : ℕ) → OneTo n m → of_size m (upto n) ≡ listing m
upto-of-size n m o = sorted-same (of_size m (upto n)) (listing m) (sorted-of_size m (upto n) (upto-sorted n)) (listing-sorted m) (λ w. (to w, from w))
  where
    to : (w : List ℕ) → Memᴰ w (of_size m (upto n)) → Memᴰ w (listing m)
    to w i =
        let r = from-of_size m (upto n) w i in
        let l = (upto-exactly n w).0 r.0 in
        listing-complete m w (subst (λ (x : ℕ). Word x w) (sym (black-length l.0 w l.2) ∙ r.1) l.2)

    from : (w : List ℕ) → Memᴰ w (listing m) → Memᴰ w (of_size m (upto n))
    from w i =
        let a = all-mem (Word m) (listing m) (listing-words m) i in
        to-of_size m (upto n) w ((upto-exactly n w).1 (m, o, a)) (black-length m w a)

-- ---- places, from 1

mem-at : (ws : List (List ℕ)) (i : ℕ) → i < length ws → Memᴰ (get_or ws i []) ws
mem-at [] i h = absurd (not-suc-le-zero h)
mem-at (w ∷ ws) zero h = Memᴰ.head refl
mem-at (w ∷ ws) (suc i) h = Memᴰ.tail (mem-at ws i (omega arith))

pub place_of : (ws : List (List ℕ)) (w : List ℕ) → Memᴰ w ws → (i : ℕ) × (i < length ws) × (get_or ws i [] ≡ w)
place_of [] w m = absurd (Memᴰ.not-nil m)
place_of (v ∷ ws) w m = ⊎_elim (λ e. (zero, omega arith, sym e)) (λ j. let r = place_of ws w j in let l = r.1 in (suc r.0, omega arith, r.2)) (Memᴰ.cases_cons m)

pub at-upto : (n p : ℕ) → OneTo (total n) p → Listed n (word_upto n p)
unfolding total word_upto
at-upto n zero o = absurd (omega arith)
at-upto n (suc i) o = (upto-exactly n (get_or (upto n) i [])).0 (mem-at (upto n) i o.1)

pub upto-at : (n : ℕ) (w : List ℕ) → Listed n w → (p : ℕ) × OneTo (total n) p × (word_upto n p ≡ w)
unfolding total word_upto
upto-at n w l = let r = place_of (upto n) w ((upto-exactly n w).1 l) in (suc r.0, (omega arith, r.1), r.2)

pub upto-once : (n p q : ℕ) → OneTo (total n) p → OneTo (total n) q → word_upto n p ≡ word_upto n q → p ≡ q
unfolding total word_upto
upto-once n zero q a b e = absurd (omega arith)
upto-once n (suc i) zero a b e = absurd (omega arith)
upto-once n (suc i) (suc j) a b e = ap suc (sorted-once (upto n) i j (upto-sorted n) a.1 b.1 e)

-- a listed word is not empty
listed-after : (n : ℕ) (w : List ℕ) → Listed n w → Before [] w
listed-after n [] l = absurd l.2
listed-after n (x ∷ w) l = tt

-- a word further on comes after; also after the empty word, which stands for place 0
pub upto-later : (n p q : ℕ) → p < q → q ≤ total n → Before (word_upto n p) (word_upto n q)
unfolding total word_upto
upto-later n p zero l h = absurd (omega arith)
upto-later n zero (suc j) l h = listed-after n (get_or (upto n) j []) ((upto-exactly n (get_or (upto n) j [])).0 (mem-at (upto n) j h))
upto-later n (suc i) (suc j) l h = sorted-at (upto n) i j (upto-sorted n) (omega arith) h

pub upto_next : (n p : ℕ) (w' : List ℕ) → p ≤ total n → Listed n w' → Before (word_upto n p) w' → ((v : List ℕ) → Listed n v → Before (word_upto n p) v → (w' ≡ v) ⊎ Before w' v)
    → (p < total n) × (word_upto n (suc p) ≡ w')
upto_next n p w' h l b least = (below, go (least (word_upto n (suc p)) (at-upto n (suc p) (omega arith, below)) (upto-later n p (suc p) (omega arith) below)) (lt? (suc p) found.0))
  where
    found : (q : ℕ) × OneTo (total n) q × (word_upto n q ≡ w')
    found = upto-at n w' l

    further : (found.0 < p) ⊎ (p ≤ found.0) → (p < found.0) ⊎ (found.0 ≤ p) → p < found.0
    further (inl k) r = absurd (before-antisym (word_upto n p) w' b (subst (λ (v : List ℕ). Before v (word_upto n p)) found.2 (upto-later n found.0 p k h)))
    further (inr k) (inl r) = r
    further (inr k) (inr r) = let e : found.0 ≡ p = omega arith in absurd (before-irrefl w' (subst (λ (v : List ℕ). Before v w') (sym (ap (word_upto n) e) ∙ found.2) b))

    past : p < found.0
    past = further (lt? found.0 p) (lt? p found.0)

    below : p < total n
    below = let i = past in let o = found.1 in omega arith

    go : (w' ≡ word_upto n (suc p)) ⊎ Before w' (word_upto n (suc p)) → (suc p < found.0) ⊎ (found.0 ≤ suc p) → word_upto n (suc p) ≡ w'
    go (inl e) r = sym e
    go (inr k) (inl r) = absurd (before-antisym w' (word_upto n (suc p)) k (subst (Before (word_upto n (suc p))) found.2 (upto-later n (suc p) found.0 r found.1.1)))
    go (inr k) (inr r) = let i = past in let e : suc p ≡ found.0 = omega arith in ap (word_upto n) e ∙ found.2

pub upto-last : (n p : ℕ) → OneTo (total n) p → ((v : List ℕ) → Listed n v → ¬ Before (word_upto n p) v) → p ≡ total n
upto-last n p o none = go (lt? p (total n))
  where
    go : (p < total n) ⊎ (total n ≤ p) → p ≡ total n
    go (inl l) = absurd (none (word_upto n (suc p)) (at-upto n (suc p) (omega arith, l)) (upto-later n p (suc p) (omega arith) l))
    go (inr l) = omega arith
