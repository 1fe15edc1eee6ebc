-- Reading a word and reading it backwards: the state after some items, the state before an item, and what follows when an item is raised.
use mathlib.Core.Path.{◌≡◌, refl, sym, ap, ◌∙◌}
use mathlib.Core.Logic.{◌≢◌}
use mathlib.Core.Bool.{Bool, true, false, true≢false, cond}
use mathlib.Core.List.{List, [], ◌∷◌, ◌++◌}
use Prim.Native.Nat.{ℕ, zero, suc, ◌+◌, ◌-◌, ◌≤◌, ◌<◌}
use native.Mathlib.Omega.{arith}
use lib.Dec.{ltb}
use lib.ListN.{length, get_or, take, drop, take-append-drop}
use lib.Seq.{drop-cons, take-suc, take-length, drop-length}
use Rattle.lists.proofs.Tests.{ltb-true}
use Rattle.words.specs.Shape.{pre, Fits}
use Rattle.listing_successor_states.specs.declared.StackState.{StackState}
use Rattle.listing_successor.specs.Successor.{stack_state, dead_end, state_after_item, can_end, can_end_after, least_above, least_ending, raised_to, keep_or, next_ending}
use Rattle.listing_successor.specs.Reading.{ReadsTo, Raises}
use Rattle.listing_successor_states.proofs.Cases.{state-same}
use Rattle.listing_successor_states.proofs.States.{fits_after, after-fits, after_small}
use Rattle.listing_successor_events.proofs.Ends.{dead}
use Rattle.listing_successor_events.proofs.Events.{above-least}

-- ---- the state before an item

heights : (h f h' f' : ℕ) → stack_state h f ≡ stack_state h' f' → h ≡ h'
heights h f h' f' e = ap (λ (l : StackState). l.height) e

frees : (h f h' f' : ℕ) → stack_state h f ≡ stack_state h' f' → f ≡ f'
frees h f h' f' e = ap (λ (l : StackState). l.free) e

-- no item that was read leads to the dead end
not-dead-end : {A : Type 0} (h' f' : ℕ) → dead_end ≡ stack_state h' f' → can_end h' f' ≡ true → A
not-dead-end h' f' e q = absurd (true≢false (sym (rw (← (heights 0 1 h' f' e), ← (frees 0 1 h' f' e)) at q)))

module _ (h' f' : ℕ) where
  pub unread-W : (h f x : ℕ) → x ≡ 0 → ReadsTo h f x h' f' → stack_state (h' + 1) f' ≡ stack_state h f
  unread-W zero f x e r = not-dead-end h' f' r.leads_to r.ended
  unread-W (suc h) f x e r = let q = rw e at r.leads_to in state-same _ _ _ _ (let p = heights h f h' f' q in omega arith) (sym (frees h f h' f' q))

  pub unread-F : (h f x : ℕ) → x ≡ 1 → ReadsTo h f x h' f' → (1 ≤ h') × (stack_state (h' - 1) (f' + 3) ≡ stack_state h f)
  unread-F zero f x e r = not-dead-end h' f' r.leads_to r.ended
  unread-F (suc h) zero x e r = not-dead-end h' f' (rw e at r.leads_to) r.ended
  unread-F (suc h) (suc zero) x e r = not-dead-end h' f' (rw e at r.leads_to) r.ended
  unread-F (suc h) (suc (suc zero)) x e r = not-dead-end h' f' (rw e at r.leads_to) r.ended
  unread-F (suc h) (suc (suc (suc f))) x e r = let q = rw e at r.leads_to in let p = heights (suc (suc h)) f h' f' q in (omega arith, state-same _ _ _ _ (omega arith) (let z = frees (suc (suc h)) f h' f' q in omega arith))

  pub unread-B : (h f x : ℕ) → x ≡ 2 → ReadsTo h f x h' f' → stack_state (h' + 1) (f' + 1) ≡ stack_state h f
  unread-B zero f x e r = not-dead-end h' f' r.leads_to r.ended
  unread-B (suc h) zero x e r = not-dead-end h' f' (rw e at r.leads_to) r.ended
  unread-B (suc h) (suc f) x e r = let q = rw e at r.leads_to in state-same _ _ _ _ (let p = heights h f h' f' q in omega arith) (let z = frees h f h' f' q in omega arith)

  pub unread-J : (h f x : ℕ) → x ≢ 0 → x ≢ 1 → x ≢ 2 → ReadsTo h f x h' f' → stack_state (h' + 2) f' ≡ stack_state h f
  unread-J h f zero a b c r = absurd (a refl)
  unread-J h f (suc zero) a b c r = absurd (b refl)
  unread-J h f (suc (suc zero)) a b c r = absurd (c refl)
  unread-J zero f (suc (suc (suc d))) a b c r = not-dead-end h' f' r.leads_to r.ended
  unread-J (suc h) f (suc (suc (suc d))) a b c r = go h (ltb d h) refl r.leads_to
    where
      go : (h : ℕ) (t : Bool) → ltb d h ≡ t → cond t (stack_state (pre h) f) dead_end ≡ stack_state h' f' → stack_state (h' + 2) f' ≡ stack_state (suc h) f
      go h false q e = not-dead-end h' f' e r.ended
      go zero true q e = let z = ltb-true d 0 q in absurd (omega arith)
      go (suc h) true q e = state-same _ _ _ _ (let p = heights h f h' f' e in omega arith) (sym (frees h f h' f' e))

-- ---- the state after some items

abbrev pub state_after_items : ℕ → ℕ → List ℕ → StackState
state_after_items h f [] = stack_state h f
state_after_items h f (x ∷ w) = state_after_items (state_after_item h f x).height (state_after_item h f x).free w

pub state_after_items-one : (w : List ℕ) (h f x : ℕ) → state_after_items h f (w ++ (x ∷ [])) ≡ state_after_item (state_after_items h f w).height (state_after_items h f w).free x
state_after_items-one [] h f x = refl
state_after_items-one (y ∷ w) h f x = state_after_items-one w (state_after_item h f y).height (state_after_item h f y).free x

pub state_after_items-small : (w : List ℕ) (h f : ℕ) → h + f ≤ 50 → (state_after_items h f w).height + (state_after_items h f w).free ≤ 50
state_after_items-small [] h f s = s
state_after_items-small (x ∷ w) h f s = state_after_items-small w (state_after_item h f x).height (state_after_item h f x).free (after_small 50 h f x (omega arith) s)

state_after_items-end : (w : List ℕ) (h f : ℕ) → Fits h f w → state_after_items h f w ≡ stack_state 0 0
state_after_items-end [] zero zero a = refl
state_after_items-end [] zero (suc f) a = absurd a
state_after_items-end [] (suc h) f a = absurd a
state_after_items-end (x ∷ w) h f a = state_after_items-end w (state_after_item h f x).height (state_after_item h f x).free (fits_after h f x w a)

pub fits-ends : (h f : ℕ) (w : List ℕ) → Fits h f w → can_end h f ≡ true
fits-ends h f w a = go (can_end h f) refl
  where
    go : (b : Bool) → can_end h f ≡ b → b ≡ true
    go true e = refl
    go false e = absurd (dead h f e w a)

-- what follows the rest follows the whole, behind the items before it
pub keep-behind : (x : ℕ) (u : List ℕ) (y : ℕ) (v r : List ℕ) → keep_or x (u ++ (y ∷ v)) r ≡ x ∷ (u ++ (y ∷ v))
keep-behind x [] y v r = refl
keep-behind x (z ∷ u) y v r = refl

pub next-behind : (u : List ℕ) (h f : ℕ) (w : List ℕ) (y : ℕ) (v : List ℕ) → next_ending (state_after_items h f u).height (state_after_items h f u).free w ≡ y ∷ v → next_ending h f (u ++ w) ≡ u ++ (y ∷ v)
unfolding next_ending
next-behind [] h f w y v e = e
next-behind (x ∷ u) h f w y v e = rw (next-behind u (state_after_item h f x).height (state_after_item h f x).free w y v e) (keep-behind x u y v _)

-- an item that is read is small
pub item-low : (h f x : ℕ) (w : List ℕ) → h + f ≤ 50 → Fits h f (x ∷ w) → x ≤ 51
item-low zero f x w s a = absurd a
item-low (suc h) f zero w s a = omega arith
item-low (suc h) f (suc zero) w s a = omega arith
item-low (suc h) f (suc (suc zero)) w s a = omega arith
item-low (suc h) f (suc (suc (suc d))) w s a = let i = a.0 in omega arith

-- ---- the way back

-- of w, read from H and F on, the items before place i lead to h and f, and what is left can not be raised
pub record Back (H F : ℕ) (w : List ℕ) (i h f : ℕ) : Type 0 where
  pub reached : state_after_items H F (take i w) ≡ stack_state h f
  pub last : next_ending h f (drop i w) ≡ []
  pub fits : Fits h f (drop i w)

pub back_start : (H F : ℕ) (w : List ℕ) → Fits H F w → Back H F w (length w) 0 0
unfolding next_ending
back_start H F w a = record { reached = rw take-length (state_after_items-end w H F a); last = rw drop-length; fits = rw drop-length tt }

module _ (H F : ℕ) (w : List ℕ) (small : H + F ≤ 50) (j h f : ℕ) (k : j < length w) (B : Back H F w (suc j) h f) where
  abbrev x : ℕ
  x = get_or w j 0

  abbrev l : StackState
  l = state_after_items H F (take j w)

  -- the item at j was read at the state that the items before it lead to
  pub back_read : ReadsTo l.height l.free x h f
  back_read = record { leads_to = sym (state_after_items-one (take j w) H F x) ∙ rw (take-suc w j 0 k) at B.reached; ended = fits-ends h f (drop (suc j) w) B.fits }

  state-small : l.height + l.free ≤ 50
  state-small = state_after_items-small (take j w) H F small

  back_fits : Fits l.height l.free (x ∷ drop (suc j) w)
  back_fits = after-fits l.height l.free x (drop (suc j) w) (rw back_read.leads_to B.fits)

  pub back-item : x ≤ 51
  back-item = item-low l.height l.free x (drop (suc j) w) state-small back_fits

  -- what follows the items from j on, by the event that x can be raised to
  next_here : next_ending l.height l.free (drop j w) ≡ raised_to (least_above l.height l.free x) (state_after_item l.height l.free (least_above l.height l.free x))
  unfolding next_ending
  next_here = rw (drop-cons w j 0 k, back_read.leads_to, B.last)

  -- in terms of a state m that the reading back gives
  module _ (m : StackState) (U : (h' f' : ℕ) → ReadsTo h' f' x h f → m ≡ stack_state h' f') where
    back_is : m ≡ l
    back_is = U l.height l.free back_read

    pub back-small : m.height + m.free ≤ 50
    back-small = rw back_is state-small

    module _ (e : ℕ) (q : e ≡ least_above m.height m.free x) where
      here : e ≡ least_above l.height l.free x
      here = rw (← back_is) q

      pub back_more : e ≡ 0 → Back H F w j m.height m.free
      back_more z = rw back_is record { reached = refl; last = next_here ∙ rw (← here, z); fits = rw (drop-cons w j 0 k) back_fits }

      raise : (e : ℕ) → e ≡ least_above l.height l.free x → e ≢ 0 → Raises H F w j e (state_after_item l.height l.free e).height (state_after_item l.height l.free e).free
      unfolding can_end_after
      raise zero q n = absurd (n refl)
      raise (suc e) q n = record {
        none = λ z. absurd (omega arith);
        some = λ z. rw take-append-drop at (next-behind (take j w) H F (drop j w) (suc e) (least_ending (state_after_item l.height l.free (suc e)).height (state_after_item l.height l.free (suc e)).free) (next_here ∙ rw (← q)));
        within = λ z. k;
        ended = λ z. rw (← q) at ((above-least l.height l.free x).some (rw (← q) n)).2;
        small = after_small 50 l.height l.free (suc e) (omega arith) state-small;
      }

      pub back-raise : (t : StackState) → t ≡ state_after_item m.height m.free e → e ≢ 0 → Raises H F w j e t.height t.free
      back-raise t p n = rw (p, back_is) (raise e here n)

-- at the first item, and nothing was raised
pub back_none : (H F : ℕ) (w : List ℕ) (i h f : ℕ) → i ≡ 0 → Back H F w i h f → Raises H F w 0 0 0 0
back_none H F w i h f z B = record { none = λ e. rw (heights H F h f b.reached, frees H F h f b.reached) b.last; some = λ n. absurd (n refl); within = λ n. absurd (n refl); ended = λ n. absurd (n refl); small = omega arith }
  where
    b : Back H F w 0 h f
    b = rw z at B
