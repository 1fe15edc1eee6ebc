-- `next_within` and `following` give the word that comes next in the single list: the last item that can be raised is raised as little as can be,
-- and W for each pending label, the least way to end, comes after it.
use mathlib.Core.Path.{◌≡◌, refl, ap}
use mathlib.Core.Logic.{◌≢◌, ◌⊎◌, inl, inr}
use mathlib.Core.List.{List, [], ◌∷◌}
use Prim.Native.Nat.{ℕ, zero, suc, ◌+◌, ◌≤◌, ◌<◌}
use native.Mathlib.Omega.{arith}
use lib.ListN.{length, take, replicate}
use Rattle.lists.proofs.Tests.{lt?, lt-true, lt-false}
use Rattle.words.specs.Order.{Before}
use Rattle.words.specs.Shape.{less1}
use Rattle.listing_successor_states.specs.declared.StackState.{StackState}
use Rattle.listing_successor_states.specs.States.{state_after_item, state_after_first}
use Rattle.listing_successor.specs.Successor.{keep_or, first_above}
use Rattle.listing_successor.proofs.Follows.{cons-not}
use Rattle.upto_words.specs.Within.{FitsWithin, WordWithin}
use Rattle.upto_words.proofs.Reading.{From, Readable, CanBegin, item-read, read-item, first_read, read_first}
use Rattle.upto_words.specs.Successor.{above, ended_by_w, place_after, next_within, next_shared, following, following_shared}

-- ---- the least item above another

-- e is the least number above x of which R holds; 0 where there is none
record Raises (R : ℕ → Type 0) (x e : ℕ) : Type 0 where
  none : e ≡ 0 → (y : ℕ) → x < y → ¬ R y
  some : e ≢ 0 → (x < e) × R e
  least : (y : ℕ) → x < y → R y → e ≤ y

module _ (R : ℕ → Type 0) (x : ℕ) where
  raises-none : ((y : ℕ) → x < y → ¬ R y) → Raises R x 0
  raises-none k = record { none = λ z. k; some = λ z. absurd (z refl); least = λ y l r. omega arith }

  raises-to : (e : ℕ) → x < e → R e → ((y : ℕ) → x < y → R y → e ≤ y) → Raises R x e
  raises-to e l r k = record { none = λ z. absurd (omega arith); some = λ z. (l, r); least = k }

-- J takes off one of the h labels
join-there : (h f y : ℕ) → 3 ≤ y → Readable h f y → y < 3 + h
join-there h f zero l r = absurd (omega arith)
join-there h f (suc zero) l r = absurd (omega arith)
join-there h f (suc (suc zero)) l r = absurd (omega arith)
join-there h f (suc (suc (suc d))) l r = omega arith

-- J0 is the least where neither F nor B can be read above x
join-raises : (h f x : ℕ) → x < 3 → ((y : ℕ) → x < y → Readable h f y → 3 ≤ y) → Raises (Readable h f) x (less1 h 0 (λ g. 3))
join-raises zero f x l k = raises-none _ x (λ y m r. let i = k y m r in let j = join-there 0 f y i r in omega arith)
join-raises (suc h) f x l k = raises-to _ x 3 l (omega arith) k

-- F needs three labels, and B one
no-fork : (h f y : ℕ) → f < 3 → 0 < y → Readable h f y → 2 ≤ y
no-fork h f zero l m r = absurd (omega arith)
no-fork h f (suc zero) l m r = absurd (omega arith)
no-fork h f (suc (suc y)) l m r = omega arith

no_label : (h y : ℕ) → 0 < y → Readable h 0 y → 3 ≤ y
no_label h zero m r = absurd (omega arith)
no_label h (suc zero) m r = absurd (omega arith)
no_label h (suc (suc zero)) m r = absurd (omega arith)
no_label h (suc (suc (suc d))) m r = omega arith

above-raises : (h f x : ℕ) → Readable h f x → Raises (Readable h f) x (above h f x)
above-raises h zero zero r = join-raises h 0 0 (omega arith) (λ y. no_label h y)
above-raises h (suc zero) zero r = raises-to _ 0 2 (omega arith) (omega arith) (λ y. no-fork h 1 y (omega arith))
above-raises h (suc (suc zero)) zero r = raises-to _ 0 2 (omega arith) (omega arith) (λ y. no-fork h 2 y (omega arith))
above-raises h (suc (suc (suc f))) zero r = raises-to _ 0 1 (omega arith) (omega arith) (λ y l s. l)
above-raises h f (suc zero) r = raises-to _ 1 2 (omega arith) (omega arith) (λ y l s. l)
above-raises h f (suc (suc zero)) r = join-raises h f 2 (omega arith) (λ y l s. l)
above-raises h f (suc (suc (suc d))) r = go (lt? (suc d) h)
  where
    go : (suc d < h) ⊎ (h ≤ suc d) → Raises (Readable h f) (suc (suc (suc d))) (above h f (suc (suc (suc d))))
    go (inl l) = rw (lt-true (suc d) h l) (raises-to _ _ (suc (suc (suc (suc d)))) (omega arith) l (λ y m s. m))
    go (inr l) = rw (lt-false (suc d) h l) (raises-none _ _ (λ y m s. let i = join-there h f y (omega arith) s in omega arith))

-- above U there is T alone, which needs three labels
only-T : (n y : ℕ) → 0 < y → CanBegin n y → (y ≤ 1) × (3 ≤ n)
only-T n zero l r = absurd (omega arith)
only-T n (suc zero) l r = (omega arith, r)
only-T n (suc (suc y)) l r = absurd r

first-raises : (n x : ℕ) → Raises (CanBegin n) x (first_above n x)
first-raises n (suc x) = raises-none _ (suc x) (λ y l r. let i = (only-T n y (omega arith) r).0 in omega arith)
first-raises n zero = go n
  where
    few : (n : ℕ) → n < 3 → Raises (CanBegin n) 0 0
    few n m = raises-none _ 0 (λ y l r. let i = (only-T n y l r).1 in omega arith)

    go : (n : ℕ) → Raises (CanBegin n) 0 (first_above n 0)
    go zero = few 0 (omega arith)
    go (suc zero) = few 1 (omega arith)
    go (suc (suc zero)) = few 2 (omega arith)
    go (suc (suc (suc n))) = raises-to _ 0 1 (omega arith) (omega arith) (λ y l r. l)

-- ---- W for each pending label is the least way to end

-- the same or earlier, also behind the same item
headed : (x y : ℕ) (v u : List ℕ) → x ≡ y → (v ≡ u) ⊎ Before v u → (x ∷ v ≡ y ∷ u) ⊎ Before (x ∷ v) (y ∷ u)
headed x y v u e (inl q) = inl (rw (e, q))
headed x y v u e (inr b) = inr (inr (e, b))

pub replicate-fits : (h f : ℕ) → FitsWithin h f (replicate h 0)
replicate-fits zero f = tt
replicate-fits (suc h) f = replicate-fits h f

pub replicate-least : (h f : ℕ) (v : List ℕ) → FitsWithin h f v → (replicate h 0 ≡ v) ⊎ Before (replicate h 0) v
replicate-least zero f [] a = inl refl
replicate-least zero f (x ∷ v) a = absurd a
replicate-least (suc h) f [] a = absurd a
replicate-least (suc h) f (zero ∷ v) a = headed 0 0 (replicate h 0) v refl (replicate-least h f v a)
replicate-least (suc h) f (suc x ∷ v) a = inr (inl (omega arith))

-- ---- the next among the lists of which P holds

-- v is the next after w, and both begin with the same k items, up to the place of the item that is raised
pub record Next (P : List ℕ → Type 0) (w v : List ℕ) (k : ℕ) : Type 0 where
  pub fits : P v
  pub later : Before w v
  pub next : (u : List ℕ) → P u → Before w u → (v ≡ u) ⊎ Before v u
  pub at_place : k < length w
  pub shared : take k w ≡ take k v
  pub longer : k < length v
  pub after : Before w (take (suc k) v)

-- v is the next after w, and [] where there is none
pub record Steps (P : List ℕ → Type 0) (w v : List ℕ) (k : ℕ) : Type 0 where
  pub none : v ≡ [] → (u : List ℕ) → P u → ¬ Before w u
  pub some : v ≢ [] → Next P w v k

-- P by the first item: which ones R lets be read, and the state a y after the item y
module _ (P : List ℕ → Type 0) (R : ℕ → Type 0) (a : ℕ → StackState) (to : (y : ℕ) (v : List ℕ) → P (y ∷ v) → R y × From (a y) v) (from : (y : ℕ) (v : List ℕ) → R y → From (a y) v → P (y ∷ v)) where
  -- what comes after the first item x, where that is kept
  rest : (x y : ℕ) (u : List ℕ) → x ≡ y → P (y ∷ u) → From (a x) u
  rest x y u e p = (to x u (rw (← e) at p)).1

  -- there is a next way to go on after x
  kept : (x : ℕ) (w v : List ℕ) (k : ℕ) → R x → Next (From (a x)) w v k → Next P (x ∷ w) (x ∷ v) (suc k)
  kept x w v k r N = record { fits = from x v r N.fits; later = inr (refl, N.later); next = near; at_place = let i = N.at_place in omega arith; shared = ap (λ (u : List ℕ). x ∷ u) N.shared; longer = let i = N.longer in omega arith; after = inr (refl, N.after) }
    where
      near : (u : List ℕ) → P u → Before (x ∷ w) u → (x ∷ v ≡ u) ⊎ Before (x ∷ v) u
      near [] p b = absurd b
      near (y ∷ u) p (inl b) = inr (inl b)
      near (y ∷ u) p (inr b) = headed x y v u b.0 (N.next u (rest x y u b.0 p) b.1)

  module _ (x e : ℕ) (S : Raises R x e) (w : List ℕ) (N : (u : List ℕ) → From (a x) u → ¬ Before w u) where
    -- x is the last item that can be raised, and is raised to e
    raised : e ≢ 0 → Next P (x ∷ w) (e ∷ replicate (a e).height 0) 0
    raised z = record { fits = from e _ (S.some z).1 (replicate-fits (a e).height (a e).free); later = inl (S.some z).0; next = near; at_place = omega arith; shared = refl; longer = omega arith; after = inl (S.some z).0 }
      where
        by : (y : ℕ) (u : List ℕ) → P (y ∷ u) → e ≤ y → (e < y) ⊎ (y ≤ e) → (e ∷ replicate (a e).height 0 ≡ y ∷ u) ⊎ Before (e ∷ replicate (a e).height 0) (y ∷ u)
        by y u p l (inl m) = inr (inl m)
        by y u p l (inr m) = headed e y _ u (omega arith) (replicate-least (a e).height (a e).free u (rest e y u (omega arith) p))

        near : (u : List ℕ) → P u → Before (x ∷ w) u → (e ∷ replicate (a e).height 0 ≡ u) ⊎ Before (e ∷ replicate (a e).height 0) u
        near [] p b = absurd b
        near (y ∷ u) p (inl b) = by y u p (S.least y b (to y u p).0) (lt? e y)
        near (y ∷ u) p (inr b) = absurd (N u (rest x y u b.0 p) b.1)

    -- nothing can be raised
    last : e ≡ 0 → (u : List ℕ) → P u → ¬ Before (x ∷ w) u
    last z [] p b = b
    last z (y ∷ u) p (inl b) = S.none z y b (to y u p).0
    last z (y ∷ u) p (inr b) = N u (rest x y u b.0 p) b.1

  steps-onward : (x e : ℕ) → R x → Raises R x e → (w v : List ℕ) (k : ℕ) → Steps (From (a x)) w v k → Steps P (x ∷ w) (keep_or x v (ended_by_w e (a e))) (place_after v k)
  steps-onward x e r S w (y ∷ v) k N = record { none = λ q. absurd (cons-not x (y ∷ v) q); some = λ q. kept x w (y ∷ v) k r (N.some (cons-not y v)) }
  steps-onward x zero r S w [] k N = record { none = λ q. last x 0 S w (N.none refl) refl; some = λ q. absurd (q refl) }
  steps-onward x (suc e) r S w [] k N = record { none = λ q. absurd (cons-not (suc e) _ q); some = λ q. raised x (suc e) S w (N.none refl) (λ z. omega arith) }

pub ways-step : (w : List ℕ) (h f : ℕ) → FitsWithin h f w → Steps (FitsWithin h f) w (next_within h f w) (next_shared h f w)
unfolding next_within next_shared
ways-step [] zero f p = record { none = λ q. alone; some = λ q. absurd (q refl) }
  where
    alone : (u : List ℕ) → FitsWithin 0 f u → ¬ Before [] u
    alone [] a b = b
    alone (x ∷ u) a b = a
ways-step [] (suc h) f p = absurd p
ways-step (x ∷ w) zero f p = absurd p
ways-step (x ∷ w) (suc h) f p =
    let i = item-read h f x w p in
    steps-onward (FitsWithin (suc h) f) (Readable h f) (state_after_item (suc h) f) (item-read h f) (read-item h f) x (above h f x) i.0 (above-raises h f x i.0) w _ _ (ways-step w _ _ i.1)

words_step : (n : ℕ) (w : List ℕ) → WordWithin n w → Steps (WordWithin n) w (following n w) (following_shared n w)
unfolding following following_shared
words_step n [] p = absurd p
words_step n (x ∷ w) p =
    let i = first_read n x w p in
    steps-onward (WordWithin n) (CanBegin n) (state_after_first n) (first_read n) (read_first n) x (first_above n x) i.0 (first-raises n x) w _ _ (ways-step w _ _ i.1)

-- ---- the word that follows

-- w' is the next word within n after w (the first after []), and both begin with the same k items, up to the place of the item that is raised
pub record Follows (n : ℕ) (w w' : List ℕ) (k : ℕ) : Type 0 where
  pub fits : WordWithin n w'
  pub later : Before w w'
  pub next : (v : List ℕ) → WordWithin n v → Before w v → (w' ≡ v) ⊎ Before w' v
  pub at_place : (k ≡ 0) ⊎ (k < length w)
  pub shared : take k w ≡ take k w'
  pub longer : k < length w'
  pub after : Before w (take (suc k) w')

-- UW is the first word
first-follows : (n : ℕ) → 1 ≤ n → Follows n [] (0 ∷ 0 ∷ []) 0
first-follows zero l = absurd (omega arith)
first-follows (suc n) l = record { fits = tt; later = tt; next = near; at_place = inl refl; shared = refl; longer = omega arith; after = tt }
  where
    near : (v : List ℕ) → WordWithin (suc n) v → Before [] v → (0 ∷ 0 ∷ [] ≡ v) ⊎ Before (0 ∷ 0 ∷ []) v
    near [] p b = absurd b
    near (zero ∷ v) p b = headed 0 0 (0 ∷ []) v refl (replicate-least 1 n v p)
    near (suc y ∷ v) p b = inr (inl (omega arith))

pub follows : (n : ℕ) (w : List ℕ) → 1 ≤ n → (w ≡ []) ⊎ WordWithin n w → following n w ≢ [] → Follows n w (following n w) (following_shared n w)
unfolding following following_shared
follows n [] l s z = first-follows n l
follows n (x ∷ w) l (inl e) z = absurd (cons-not x w e)
follows n (x ∷ w) l (inr p) z = let N = (words_step n (x ∷ w) p).some z in record { fits = N.fits; later = N.later; next = N.next; at_place = inr N.at_place; shared = N.shared; longer = N.longer; after = N.after }

pub follows-none : (n : ℕ) (w : List ℕ) → WordWithin n w → following n w ≡ [] → (v : List ℕ) → WordWithin n v → ¬ Before w v
follows-none n w p e = (words_step n w p).none e
