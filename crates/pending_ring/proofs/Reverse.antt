-- A ring read by the links back is the ring of the reversed stack (`ring-reverse`), which has at place e what the stack has at place d,
-- where d + e + 1 is the height (`get_d_reverse`).
use mathlib.Core.Path.{◌≡◌, ◌∙◌}
use mathlib.Core.Logic.{inl, inr, ⊎_elim}
use mathlib.Core.List.{List, [], ◌∷◌, reverse, reverse_aux, reverse-cons}
use Prim.Native.Nat.{ℕ, zero, suc, ◌+◌, ◌-◌, ◌<◌}
use native.Mathlib.Omega.{arith}
use lib.ListN.{length, get_or, length-reverse, get_or-append}
use lib.Seq.{get_or-append_seam}
use Rattle.lists.specs.Lists.{Has, Distinct, All, find}
use Rattle.lists.proofs.Lists.{has-snoc, distinct_snoc, all_append, has_get_d, find-lt, get_or-find, find-get_or}
use Rattle.pending_ring.specs.Ring.{Linked, Ring}

-- ---- reversed lists

reverse-has : (x : ℕ) (s : List ℕ) → Has x (reverse s) → Has x s
reverse-has x [] h = h
reverse-has x (y ∷ s) h = ⊎_elim (λ i. inr (reverse-has x s i)) (λ e. inl e) (has-snoc x (reverse s) y (rw (reverse-cons y s) at h))

distinct-reverse : (s : List ℕ) → Distinct s → Distinct (reverse s)
distinct-reverse [] u = u
distinct-reverse (x ∷ s) (n, u) = rw (reverse-cons x s) (distinct_snoc (reverse s) x (distinct-reverse s u) (λ i. n (reverse-has x s i)))

all-reverse : (P : ℕ → Type 0) (s : List ℕ) → All P s → All P (reverse s)
all-reverse P [] a = a
all-reverse P (x ∷ s) (p, a) = rw (reverse-cons x s) (all_append P (reverse s) (x ∷ []) (all-reverse P s a) (p, tt))

-- d places from the one end is e places from the other
pub get_d_reverse : (s : List ℕ) (d e : ℕ) → suc (d + e) ≡ length s → get_or (reverse s) e 0 ≡ get_or s d 0
get_d_reverse [] d e h = absurd (omega arith)
get_d_reverse (x ∷ s) zero e h =
    let k : e ≡ length (reverse s) = omega (arith, length-reverse s) in
    rw (reverse-cons x s, k) (get_or-append_seam (reverse s) x [] 0)
get_d_reverse (x ∷ s) (suc d) e h =
    rw (reverse-cons x s) (get_or-append (reverse s) (x ∷ []) 0 e (omega (arith, length-reverse s)) ∙ get_d_reverse s d e (omega arith))

-- so far as x stands from the one end, it stands from the other
module _ (x : ℕ) (s : List ℕ) (h : Has x s) where
  has-reverse-at : (e : ℕ) → suc (find x s + e) ≡ length s → get_or (reverse s) e 0 ≡ x
  has-reverse-at e k = get_d_reverse s (find x s) e k ∙ get_or-find x s h

  pub has-reverse : Has x (reverse s)
  has-reverse =
      let l = find-lt x s h in
      let e : suc (find x s + (length s - 1 - find x s)) ≡ length s = omega arith in
      rw (has-reverse-at (length s - 1 - find x s) e) at (has_get_d (reverse s) (length s - 1 - find x s) (omega (arith, length-reverse s)))

  pub find-reverse : Distinct s → suc (find x s + find x (reverse s)) ≡ length s
  find-reverse u =
      let l = find-lt x s h in
      let e : suc (find x s + (length s - 1 - find x s)) ≡ length s = omega arith in
      let f = find-get_or (reverse s) (length s - 1 - find x s) (distinct-reverse s u) (omega (arith, length-reverse s)) in
      omega (arith, rw (has-reverse-at (length s - 1 - find x s) e) at f)

-- ---- the ring

-- the links from a through s to b, and those back from a through t to c, make the links back from b
linked-reverse : (nx pv : List ℕ) (a : ℕ) (s : List ℕ) (b : ℕ) (t : List ℕ) (c : ℕ) → Linked nx pv a s b → Linked pv nx a t c → Linked pv nx b (reverse_aux s (a ∷ t)) c
linked-reverse nx pv a [] b t c (p, q) k = ((q, p), k)
linked-reverse nx pv a (x ∷ s) b t c ((p, q), r) k = linked-reverse nx pv x s b (a ∷ t) c r ((q, p), k)

round-reverse : (nx pv s : List ℕ) → Linked nx pv 0 s 0 → Linked pv nx 0 (reverse s) 0
round-reverse nx pv [] (p, q) = (q, p)
round-reverse nx pv (x ∷ s) ((p, q), r) = linked-reverse nx pv x s 0 [] 0 r (q, p)

pub ring-reverse : (nx pv s : List ℕ) → Ring nx pv s → Ring pv nx (reverse s)
ring-reverse nx pv s r = record {
  next_long = r.prev_long;
  prev_long = r.next_long;
  small = all-reverse (λ x. x < 1025) s r.small;
  once = (λ i. r.once.0 (reverse-has 0 s i), distinct-reverse s r.once.1);
  links = round-reverse nx pv s r.links;
}
