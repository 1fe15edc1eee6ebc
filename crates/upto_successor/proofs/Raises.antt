-- The loop that looks for the last item that can be raised: what the items before a place leave to do, and what was raised among them.
use mathlib.Core.Path.{◌≡◌, refl, sym, ◌∙◌}
use mathlib.Core.Logic.{◌≢◌}
use mathlib.Core.List.{List, [], ◌∷◌, ◌++◌}
use Prim.Native.Nat.{ℕ, zero, suc, ◌+◌, ◌-◌, ◌≤◌, ◌<◌}
use native.Mathlib.Numerals.{add-one}
use native.Mathlib.Omega.{arith}
use lib.ListN.{length, get_or, take, drop, replicate, drop_of_length-le}
use lib.Seq.{drop-cons, take-suc, append_snoc}
use lib.Dec.{ltb}
use mathlib.Core.Bool.{Bool, true, false, cond}
use Rattle.words.specs.Shape.{pre}
use Rattle.listing_successor_states.specs.declared.StackState.{StackState}
use Rattle.listing_successor_states.specs.States.{stack_state, dead_end, state_after_item}
use Rattle.listing_successor.specs.Successor.{keep_or}
use Rattle.listing_successor.proofs.Follows.{cons-not}
use Rattle.upto_words.specs.Within.{FitsWithin}
use Rattle.upto_words.proofs.Reading.{item-read, read-less}
use Rattle.upto_words.specs.Successor.{above, ended_by_w, place_after, next_within, next_shared}
use Rattle.upto_successor.specs.Raising.{RaisesWithin}

-- ---- one item

-- an item that fits takes at least one off the height and the free labels
item-taken : (h f x : ℕ) (w : List ℕ) → FitsWithin h f (x ∷ w) → let l = state_after_item h f x in (l.height + l.free < h + f) × FitsWithin l.height l.free w
item-taken zero f x w a = absurd a
item-taken (suc h) f x w a = let r = item-read h f x w a in (read-less h f x r.0, r.1)

-- no event leaves as many pending as there were pending and free
event-room : (h f e : ℕ) → h ≢ 0 → (state_after_item h f e).height < h + f
event-room zero f e n = absurd (n refl)
event-room (suc h) f zero n = omega arith
event-room (suc h) zero (suc zero) n = omega arith
event-room (suc h) (suc zero) (suc zero) n = omega arith
event-room (suc h) (suc (suc zero)) (suc zero) n = omega arith
event-room (suc h) (suc (suc (suc f))) (suc zero) n = omega arith
event-room (suc h) zero (suc (suc zero)) n = omega arith
event-room (suc h) (suc f) (suc (suc zero)) n = omega arith
event-room (suc h) f (suc (suc (suc d))) n = go h (ltb d h)
  where
    go : (h : ℕ) (b : Bool) → (cond b (stack_state (pre h) f) dead_end).height < suc h + f
    go zero true = omega arith
    go (suc h) true = omega arith
    go h false = omega arith

item-there : (h f x : ℕ) (w : List ℕ) → FitsWithin h f (x ∷ w) → h ≢ 0
item-there zero f x w a = absurd a
item-there (suc h) f x w a = λ z. omega arith

less_one : (h : ℕ) → h ≢ 0 → h - 1 ≡ pre h
less_one zero n = absurd (n refl)
less_one (suc h) n = omega arith

-- ---- several items

-- what was raised: the items before a place, an event and W for each label pending after it
abbrev raised_at : List ℕ → ℕ → ℕ → ℕ → List ℕ
raised_at w place zero pending = []
raised_at w place (suc e) pending = take place w ++ (suc e ∷ replicate pending 0)

-- what follows p and more: p and what follows that, where there is such; else r
abbrev keep_all : List ℕ → List ℕ → List ℕ → List ℕ
keep_all p [] r = r
keep_all p (y ∷ v) r = p ++ (y ∷ v)

-- the place that goes with it: k behind the i items of p, or that of r
abbrev place_or : ℕ → List ℕ → ℕ → ℕ → ℕ
place_or i [] k place = place
place_or i (y ∷ v) k place = i + k

keep-none : (v : List ℕ) → v ≡ keep_all [] v []
keep-none [] = refl
keep-none (y ∷ v) = refl

-- of w, read from H and F on, the items before place i lead to h and f; of these items the one at `place` is the last that can be raised
pub record Reached (H F : ℕ) (w : List ℕ) (i h f place event pending : ℕ) : Type 0 where
  pub within : i ≤ length w
  pub fits : FitsWithin h f (drop i w)
  pub small : i + (h + f) ≤ H + F
  pub next : next_within H F w ≡ keep_all (take i w) (next_within h f (drop i w)) (raised_at w place event pending)
  pub shared : next_shared H F w ≡ place_or i (next_within h f (drop i w)) (next_shared h f (drop i w)) place
  pub passed : event ≢ 0 → place < i
  pub room : event ≢ 0 → place + 1 + pending ≤ H + F

shared-none : (h f : ℕ) (w : List ℕ) → next_within h f w ≡ [] → next_shared h f w ≡ 0
unfolding next_within next_shared
shared-none h f [] e = refl
shared-none h f (x ∷ w) e = go (next_within (state_after_item h f x).height (state_after_item h f x).free w) e
  where
    go : (v : List ℕ) → keep_or x v (ended_by_w (above (pre h) f x) (state_after_item h f (above (pre h) f x))) ≡ [] → place_after v (next_shared (state_after_item h f x).height (state_after_item h f x).free w) ≡ 0
    go [] e = refl
    go (y ∷ v) e = absurd (cons-not x (y ∷ v) e)

pub reached-start : (H F : ℕ) (w : List ℕ) → FitsWithin H F w → Reached H F w 0 H F 0 0 0
reached-start H F w a = record {
  within = omega arith;
  fits = a;
  small = omega arith;
  next = keep-none (next_within H F w);
  shared = go (next_within H F w) refl;
  passed = λ n. absurd (n refl);
  room = λ n. absurd (n refl);
}
  where
    go : (v : List ℕ) → next_within H F w ≡ v → next_shared H F w ≡ place_or 0 v (next_shared H F w) 0
    go [] e = shared-none H F w e
    go (y ∷ v) e = omega arith

-- ---- a turn of the loop

module _ (H F : ℕ) (w : List ℕ) (i h f place event pending : ℕ) (R : Reached H F w i h f place event pending) (k : i < length w) where
  abbrev x : ℕ
  x = get_or w i 0

  abbrev e : ℕ
  e = above (pre h) f x

  abbrev l : StackState
  l = state_after_item h f x

  -- what follows the items after x, and what x is raised to
  abbrev later : List ℕ
  later = next_within l.height l.free (drop (suc i) w)

  abbrev upward : List ℕ
  upward = ended_by_w e (state_after_item h f e)

  here : FitsWithin h f (x ∷ drop (suc i) w)
  here = rw (drop-cons w i 0 k) at R.fits

  pub reached-height : h ≢ 0
  reached-height = item-there h f x (drop (suc i) w) here

  next_here : next_within h f (drop i w) ≡ keep_or x later upward
  unfolding next_within
  next_here = rw (drop-cons w i 0 k)

  shared-here : next_shared h f (drop i w) ≡ place_after later (next_shared l.height l.free (drop (suc i) w))
  unfolding next_shared
  shared-here = rw (drop-cons w i 0 k)

  -- the item is raised to e, or what was raised before stays
  pub record Turned (place' event' pending' : ℕ) : Type 0 where
    pub raised : raised_at w place' event' pending' ≡ keep_all (take i w) upward (raised_at w place event pending)
    pub placed : place' ≡ place_or i upward 0 place
    pub passed : event' ≢ 0 → place' < i + 1
    pub room : event' ≢ 0 → place' + 1 + pending' ≤ H + F

  raised-to : (y : ℕ) → y ≢ 0 → (t : StackState) → (raised_at w i y t.height ≡ keep_all (take i w) (ended_by_w y t) (raised_at w place event pending)) × (i ≡ place_or i (ended_by_w y t) 0 place)
  raised-to zero n t = absurd (n refl)
  raised-to (suc y) n t = (refl, omega arith)

  -- both in terms of the event that the code finds
  module _ (place' event' pending' y : ℕ) (q : y ≡ above (h - 1) f x) where
    found : y ≡ e
    found = rw (← (less_one h reached-height)) q

    pub turned_same : y ≤ 0 → place' ≡ place → event' ≡ event → pending' ≡ pending → Turned place' event' pending'
    turned_same l a b c =
        let z : e ≡ 0 = (let d = found in omega arith) in
        rw (a, b, c) record { raised = rw z; placed = rw z; passed = λ n. let p = R.passed n in omega arith; room = R.room }

    pub turned-raised : 0 < y → (t : StackState) → t ≡ state_after_item h f y → place' ≡ i → event' ≡ y → pending' ≡ t.height → Turned place' event' pending'
    turned-raised l t u a b c =
        let n : e ≢ 0 = (λ z. let d = found in omega arith) in
        rw (a, b, c, u, found) record {
          raised = (raised-to e n (state_after_item h f e)).0;
          placed = (raised-to e n (state_after_item h f e)).1;
          passed = λ m. omega arith;
          room = λ m. let p = event-room h f e reached-height in let s = R.small in omega arith;
        }

  keep-more : (p v r s : List ℕ) → keep_all p (keep_or x v r) s ≡ keep_all (p ++ (x ∷ [])) v (keep_all p r s)
  keep-more p [] r s = refl
  keep-more p (y ∷ v) r s = sym (append_snoc p x (y ∷ v))

  place-more : (v r : List ℕ) (m s : ℕ) → place_or i (keep_or x v r) (place_after v m) s ≡ place_or (suc i) v m (place_or i r 0 s)
  place-more [] [] m s = refl
  place-more [] (z ∷ r) m s = refl
  place-more (y ∷ v) r m s = omega arith

  pub reached-more : (t : StackState) → t ≡ l → (place' event' pending' : ℕ) → Turned place' event' pending' → Reached H F w (i + 1) t.height t.free place' event' pending'
  reached-more t q place' event' pending' T = rw q record {
    within = omega arith;
    fits = rw add-one (item-taken h f x (drop (suc i) w) here).1;
    small = let a = (item-taken h f x (drop (suc i) w) here).0 in let s = R.small in omega arith;
    next = R.next ∙ rw (next_here, add-one, take-suc w i 0 k, T.raised) (keep-more (take i w) later upward (raised_at w place event pending));
    shared = R.shared ∙ rw (next_here, shared-here, add-one, T.placed) (place-more later upward (next_shared l.height l.free (drop (suc i) w)) place);
    passed = T.passed;
    room = T.room;
  }

next-empty : (h f : ℕ) → next_within h f [] ≡ []
unfolding next_within
next-empty h f = refl

pub reached-all : (H F : ℕ) (w : List ℕ) (i h f place event pending : ℕ) → Reached H F w i h f place event pending → length w ≤ i → RaisesWithin H F w place event pending
reached-all H F w i h f place event pending R k = record {
  none = λ z. all ∙ rw z;
  some = λ n. all ∙ raised event n;
  shared = R.shared ∙ rw (drop_of_length-le w k, next-empty h f);
  within = λ n. let p = R.passed n in let q = R.within in omega arith;
  room = R.room;
}
  where
    all : next_within H F w ≡ raised_at w place event pending
    all = R.next ∙ rw (drop_of_length-le w k, next-empty h f)

    raised : (y : ℕ) → y ≢ 0 → raised_at w place y pending ≡ take place w ++ (y ∷ replicate pending 0)
    raised zero n = absurd (n refl)
    raised (suc y) n = refl
