-- Laws of the pending ring. Stores outside a linked list leave it linked (`linked-kept`); what the stores of push, pop and unhook
-- do follows by going through the list. A walk down the links meets the stack's labels one by one (`walk-label`).
use mathlib.Core.Path.{◌≡◌, refl, sym, ap, ◌∙◌, subst}
use mathlib.Core.Logic.{◌⊎◌, inl, inr, ⊎_elim}
use mathlib.Core.List.{List, [], ◌∷◌}
use Prim.Native.Nat.{ℕ, zero, suc, ◌+◌, ◌≤◌, ◌<◌}
use native.Mathlib.Nat.{le_of_suc-le-suc, not-suc-le-zero, pos_of_ne-zero}
use native.Mathlib.Numerals.{add-one}
use native.Mathlib.Omega.{arith}
use lib.ListN.{length, get_or, set, drop, replicate, length-set, length-replicate}
use lib.Seq.{get_or-set_same, get_or-set_other, lt-length-set}
use Rattle.lists.specs.Lists.{Has, Distinct, All, find, remove_at}
use Rattle.lists.specs.Ranges.{OneTo}
use Rattle.lists.proofs.Lists.{has_get_d, find-lt, get_or-find, find-get_or, remove_at-has, distinct-remove_at, all-remove_at, all-at, all-has}
use Rattle.lists.proofs.Tests.{lt?}
use Rattle.lists.proofs.Ranges.{edges_few}
use Rattle.pending_ring.specs.Ring.{Linked, Ring}

-- ---- linked lists

linked-kept : (nx pv : List ℕ) (a : ℕ) (s : List ℕ) (b i v j w : ℕ) → ¬ Has i (a ∷ s) → ¬ Has j s → ¬ (j ≡ b)
    → Linked nx pv a s b → Linked (set nx i v) (set pv j w) a s b
linked-kept nx pv a [] b i v j w hi hj hb (p, q) = (get_or-set_other nx i a v 0 (λ e. hi (inl (sym e))) ∙ p, get_or-set_other pv j b w 0 (λ e. hb (sym e)) ∙ q)
linked-kept nx pv a (x ∷ s) b i v j w hi hj hb ((p, q), r) = (
  (get_or-set_other nx i a v 0 (λ e. hi (inl (sym e))) ∙ p, get_or-set_other pv j x w 0 (λ e. hj (inl (sym e))) ∙ q),
  linked-kept nx pv x s b i v j w (λ h. hi (inr h)) (λ h. hj (inr h)) hb r,
)

-- the link from a place of the stack leads to the place below; below the last stands the sentinel
linked-at : (nx pv : List ℕ) (a : ℕ) (s : List ℕ) (d : ℕ) → d ≤ length s → Linked nx pv a s 0 → get_or nx (get_or (a ∷ s) d 0) 0 ≡ get_or s d 0
linked-at nx pv a [] zero h k = k.0
linked-at nx pv a [] (suc d) h k = absurd (not-suc-le-zero h)
linked-at nx pv a (x ∷ s) zero h k = k.0.0
linked-at nx pv a (x ∷ s) (suc d) h k = linked-at nx pv x s d (le_of_suc-le-suc h) k.1

-- the link after a, or after a label of the list, leads into the list or to its end
linked-first : (nx pv : List ℕ) (a : ℕ) (s : List ℕ) (b : ℕ) → Linked nx pv a s b → Has (get_or nx a 0) s ⊎ (get_or nx a 0 ≡ b)
linked-first nx pv a [] b (p, q) = inr p
linked-first nx pv a (x ∷ s) b ((p, q), r) = inl (inl p)

linked-next : (nx pv : List ℕ) (a : ℕ) (s : List ℕ) (b l : ℕ) → Linked nx pv a s b → Has l s → Has (get_or nx l 0) s ⊎ (get_or nx l 0 ≡ b)
linked-next nx pv a [] b l k i = absurd i
linked-next nx pv a (x ∷ s) b l (k, r) (inl e) = subst (λ (m : ℕ). Has (get_or nx m 0) (x ∷ s) ⊎ (get_or nx m 0 ≡ b)) (sym e) (⊎_elim (λ i. inl (inr i)) (λ p. inr p) (linked-first nx pv x s b r))
linked-next nx pv a (x ∷ s) b l (k, r) (inr i) = ⊎_elim (λ j. inl (inr j)) (λ p. inr p) (linked-next nx pv x s b l r i)

-- the link before it leads into the list or to its start
linked-prev : (nx pv : List ℕ) (a : ℕ) (s : List ℕ) (b l : ℕ) → Linked nx pv a s b → Has l s → Has (get_or pv l 0) (a ∷ s)
linked-prev nx pv a [] b l k i = absurd i
linked-prev nx pv a (x ∷ s) b l ((p, q), r) (inl e) = inl (ap (λ (n : ℕ). get_or pv n 0) e ∙ q)
linked-prev nx pv a (x ∷ s) b l (k, r) (inr i) = inr (linked-prev nx pv x s b l r i)

module _ (nx pv : List ℕ) (n : ℕ) (nl : length nx ≡ n) (pl : length pv ≡ n) where
  linked-push : (a : ℕ) (s : List ℕ) (b l : ℕ) → a < n → b < n → l < n → ¬ (l ≡ a) → ¬ (l ≡ b) → ¬ Has l s → ¬ Has a s → ¬ Has b s → All (λ x. x < n) s → Distinct s
      → Linked nx pv a s b → Linked (set (set nx l (get_or nx a 0)) a l) (set (set pv l a) (get_or nx a 0) l) a (l ∷ s) b
  linked-push a [] b l an bn ln la lb ls ha hb u d (p, q) =
      subst (λ (t : ℕ). Linked (set (set nx l t) a l) (set (set pv l a) t l) a (l ∷ []) b) (sym p) (
        (
          get_or-set_same (set nx l b) a l 0 (lt-length-set nx l b (omega arith)),
          get_or-set_other (set pv l a) b l l 0 lb ∙ get_or-set_same pv l a 0 (omega arith),
        ),
        (
          get_or-set_other (set nx l b) a l l 0 la ∙ get_or-set_same nx l b 0 (omega arith),
          get_or-set_same (set pv l a) b l 0 (lt-length-set pv l a (omega arith)),
        ),
      )
  linked-push a (x ∷ s) b l an bn ln la lb ls ha hb u d ((p, q), r) =
      subst (λ (t : ℕ). Linked (set (set nx l t) a l) (set (set pv l a) t l) a (l ∷ x ∷ s) b) (sym p) (
        (
          get_or-set_same (set nx l x) a l 0 (lt-length-set nx l x (omega arith)),
          get_or-set_other (set pv l a) x l l 0 (λ e. ls (inl e)) ∙ get_or-set_same pv l a 0 (omega arith),
        ),
        (
          (
            get_or-set_other (set nx l x) a l l 0 la ∙ get_or-set_same nx l x 0 (omega arith),
            get_or-set_same (set pv l a) x l 0 (lt-length-set pv l a (omega (arith, u.0))),
          ),
          linked-kept (set nx l x) (set pv l a) x s b a l x l ha d.0 (λ e. hb (inl (sym e))) (linked-kept nx pv x s b l x l a ls (λ i. ls (inr i)) lb r),
        ),
      )

  -- the first label is taken out
  linked-pop : (a x : ℕ) (s : List ℕ) (b : ℕ) → a < n → b < n → ¬ Has a (x ∷ s) → ¬ Has b (x ∷ s) → All (λ y. y < n) s → Distinct s
      → Linked nx pv x s b → Linked (set nx a (get_or nx x 0)) (set pv (get_or nx x 0) a) a s b
  linked-pop a x [] b an bn ha hb u d (p, q) = rw p (get_or-set_same nx a b 0 (omega arith), get_or-set_same pv b a 0 (omega arith))
  linked-pop a x (y ∷ s) b an bn ha hb u d ((p, q), r) =
      subst (λ (t : ℕ). Linked (set nx a t) (set pv t a) a (y ∷ s) b) (sym p) (
        (get_or-set_same nx a y 0 (omega arith), get_or-set_same pv y a 0 (omega (arith, u.0))),
        linked-kept nx pv y s b a y y a (λ i. ha (inr i)) d.0 (λ e. hb (inr (inl (sym e)))) r,
      )

  -- the label d places on is taken out
  linked-remove_at : (a : ℕ) (s : List ℕ) (b d : ℕ) → d < length s → a < n → b < n → ¬ Has b s → All (λ x. x < n) s → Distinct (a ∷ s)
      → Linked nx pv a s b
      → Linked (set nx (get_or pv (get_or s d 0) 0) (get_or nx (get_or s d 0) 0)) (set pv (get_or nx (get_or s d 0) 0) (get_or pv (get_or s d 0) 0)) a (remove_at d s) b
  linked-remove_at a [] b d h an bn hb u o k = absurd (not-suc-le-zero h)
  linked-remove_at a (x ∷ s) b zero h an bn hb u o ((p, q), r) = subst (λ (m : ℕ). Linked (set nx m (get_or nx x 0)) (set pv (get_or nx x 0) m) a s b) (sym q) (linked-pop a x s b an bn o.0 hb u.1 o.1.1 r)
  linked-remove_at a (x ∷ s) b (suc d) h an bn hb u o ((p, q), r) = (
    (
      get_or-set_other nx (get_or pv (get_or s d 0) 0) a (get_or nx (get_or s d 0) 0) 0 above ∙ p,
      get_or-set_other pv (get_or nx (get_or s d 0) 0) x (get_or pv (get_or s d 0) 0) 0 below ∙ q,
    ),
    linked-remove_at x s b d (le_of_suc-le-suc h) u.0 bn (λ j. hb (inr j)) u.1 o.1 r,
  )
    where
      i : Has (get_or s d 0) s
      i = has_get_d s d (le_of_suc-le-suc h)

      above : ¬ (a ≡ get_or pv (get_or s d 0) 0)
      above e = o.0 (subst (λ (m : ℕ). Has m (x ∷ s)) (sym e) (linked-prev nx pv x s b (get_or s d 0) r i))

      below : ¬ (x ≡ get_or nx (get_or s d 0) 0)
      below e = ⊎_elim (λ m. o.1.0 (subst (λ (v : ℕ). Has v s) (sym e) m)) (λ z. hb (inl (sym z ∙ sym e))) (linked-next nx pv x s b (get_or s d 0) r i)

-- ---- the ring

-- two arrays of 1,025 zeros hold the empty stack
pub ring-empty : Ring (replicate 1025 0) (replicate 1025 0) []
ring-empty = record {
  next_long = length-replicate {A = ℕ} 1025 0;
  prev_long = length-replicate {A = ℕ} 1025 0;
  small = tt;
  once = (λ i. i, tt);
  links = (refl, refl);
}

module _ (nx pv s : List ℕ) (r : Ring nx pv s) where
  -- the labels are 1 to 1,024
  pub ring-labels : (l : ℕ) → Has l s → OneTo 1024 l
  ring-labels l i = (pos_of_ne-zero (λ z. r.once.0 (rw z at i)), le_of_suc-le-suc (all-has (λ x. x < 1025) s l r.small i))

  -- at most 1,024 are pending
  pub ring-few : length s ≤ 1024
  ring-few = edges_few 1024 s r.once.1 ring-labels

  -- the sentinel's link is the top
  pub ring-top : get_or nx 0 0 ≡ get_or s 0 0
  ring-top = linked-at nx pv 0 s 0 (omega arith) r.links

  -- the links are indices
  pub ring-next-small : (l : ℕ) → Has l (0 ∷ s) → get_or nx l 0 < 1025
  ring-next-small l (inl e) = rw e (⊎_elim (all-has (λ x. x < 1025) s (get_or nx 0 0) r.small) (λ z. omega arith) (linked-first nx pv 0 s 0 r.links))
  ring-next-small l (inr i) = ⊎_elim (all-has (λ x. x < 1025) s (get_or nx l 0) r.small) (λ z. omega arith) (linked-next nx pv 0 s 0 l r.links i)

  pub ring-prev-small : (l : ℕ) → Has l s → get_or pv l 0 < 1025
  ring-prev-small l i = all-has (λ x. x < 1025) (0 ∷ s) (get_or pv l 0) (omega arith, r.small) (linked-prev nx pv 0 s 0 l r.links i)

  -- the top, or the sentinel where none is pending
  pub ring-top-has : Has (get_or nx 0 0) (0 ∷ s)
  ring-top-has = ⊎_elim (λ i. inr i) (λ e. inl e) (linked-first nx pv 0 s 0 r.links)

  ring-clear : Ring (set nx 0 0) (set pv 0 0) []
  ring-clear = record {
    next_long = simp length-set r.next_long;
    prev_long = simp length-set r.prev_long;
    small = tt;
    once = (λ i. i, tt);
    links = (get_or-set_same nx 0 0 0 (omega arith), get_or-set_same pv 0 0 0 (omega arith));
  }

  pub ring-push : (l : ℕ) → 0 < l → l < 1025 → ¬ Has l s → Ring (set (set nx l (get_or nx 0 0)) 0 l) (set (set pv l 0) (get_or nx 0 0) l) (l ∷ s)
  ring-push l l0 ln ls = record {
    next_long = simp length-set r.next_long;
    prev_long = simp length-set r.prev_long;
    small = (ln, r.small);
    once = (⊎_elim (λ e. omega arith) r.once.0, (ls, r.once.1));
    links = linked-push nx pv 1025 r.next_long r.prev_long 0 s 0 l (omega arith) (omega arith) ln (λ e. omega arith) (λ e. omega arith) ls r.once.0 r.once.0 r.small r.once.1 r.links;
  }

  ring-remove_at : (d : ℕ) → d < length s
      → Ring (set nx (get_or pv (get_or s d 0) 0) (get_or nx (get_or s d 0) 0)) (set pv (get_or nx (get_or s d 0) 0) (get_or pv (get_or s d 0) 0)) (remove_at d s)
  ring-remove_at d h = record {
    next_long = simp length-set r.next_long;
    prev_long = simp length-set r.prev_long;
    small = all-remove_at (λ x. x < 1025) d s r.small;
    once = (λ j. r.once.0 (remove_at-has d s 0 j), distinct-remove_at d s r.once.1);
    links = linked-remove_at nx pv 1025 r.next_long r.prev_long 0 s 0 d h (omega arith) (omega arith) r.once.0 r.small r.once r.links;
  }

  pub ring-unhook : (l : ℕ) → Has l s → Ring (set nx (get_or pv l 0) (get_or nx l 0)) (set pv (get_or nx l 0) (get_or pv l 0)) (remove_at (find l s) s)
  ring-unhook l i = rw (get_or-find l s i) at (ring-remove_at (find l s) (find-lt l s i))

pub ring-pop : (nx pv s : List ℕ) → Ring nx pv s → Ring (set nx 0 (get_or nx (get_or nx 0 0) 0)) (set pv (get_or nx (get_or nx 0 0) 0) 0) (drop 1 s)
ring-pop nx pv [] r = rw (r.links.0, r.links.0) (ring-clear nx pv [] r)
ring-pop nx pv (x ∷ s) r =
    rw r.links.0.0
    record {
      next_long = simp length-set r.next_long;
      prev_long = simp length-set r.prev_long;
      small = r.small.1;
      once = (λ i. r.once.0 (inr i), r.once.1.1);
      links = linked-pop nx pv 1025 r.next_long r.prev_long 0 x s 0 (omega arith) (omega arith) r.once.0 r.once.0 r.small.1 r.once.1.1 r.links.1;
    }

-- ---- a walk from the sentinel down to the place t: i labels are passed, and the link from index leads to the one at place i

pub record Walk (s : List ℕ) (t i index : ℕ) : Type 0 where
  pub within : i ≤ t
  pub label : index ≡ get_or (0 ∷ s) i 0

module _ (nx pv s : List ℕ) (r : Ring nx pv s) (t : ℕ) (h : t < length s) where
  pub walk_start : Walk s t 0 0
  walk_start = record { within = omega arith; label = refl }

  module _ (i index : ℕ) (w : Walk s t i index) where
    pub walk-small : index < 1025
    walk-small = rw w.label (all-at (λ x. x < 1025) (0 ∷ s) i 0 (omega arith, r.small) (omega (arith, w.within)))

    pub walk-few : i < 1024
    walk-few = let n = ring-few nx pv s r in omega (arith, w.within)

    pub walk-label : get_or nx index 0 ≡ get_or s i 0
    walk-label = rw w.label (linked-at nx pv 0 s i (omega (arith, w.within)) r.links)

    pub walk-next : i < t → Walk s t (i + 1) (get_or nx index 0)
    walk-next k = record { within = omega arith; label = rw add-one walk-label }

-- the walk to the place of l comes to l there, and not before
module _ (nx pv s : List ℕ) (r : Ring nx pv s) (l : ℕ) (h : Has l s) (d index : ℕ) (w : Walk s (find l s) d index) where
  walk_at : get_or nx index 0 ≡ get_or s d 0
  walk_at = walk-label nx pv s r (find l s) (find-lt l s h) d index w

  pub walk-on : ¬ (get_or nx index 0 ≡ l) → d < find l s
  walk-on n = ⊎_elim (λ k. k) (λ k. absurd (n (walk_at ∙ ap (λ (i : ℕ). get_or s i 0) (omega (arith, w.within)) ∙ get_or-find l s h))) (lt? d (find l s))

  pub walk-found : get_or nx index 0 ≡ l → d ≡ find l s
  walk-found e =
      let k = find-lt l s h in
      sym (find-get_or s d r.once.1 (omega (arith, w.within))) ∙ ap (λ (x : ℕ). find x s) (sym walk_at ∙ e)
