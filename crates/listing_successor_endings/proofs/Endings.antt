-- `least_ending` is the least way to end: the least event that leads on, then the least way to end after it.
use mathlib.Core.Path.{◌≡◌, refl, sym}
use mathlib.Core.Logic.{◌≢◌, inl, inr}
use mathlib.Core.Bool.{true, false, true≢false}
use mathlib.Core.List.{List, [], ◌∷◌}
use Prim.Native.Nat.{ℕ, zero, suc, ◌+◌, ◌≤◌}
use native.Mathlib.Omega.{arith}
use lib.ListN.{length}
use Rattle.words.specs.Order.{Before}
use Rattle.words.specs.Shape.{Fits}
use Rattle.words.proofs.Order.{Compared, before, equal, after, compared}
use Rattle.words.proofs.Shape.{word_length}
use Rattle.listing_successor_states.specs.States as s
use Rattle.listing_successor_states.specs.States.{state_after_first}
use Rattle.listing_successor_states.proofs.States.{From, fits_after, after-fits, start_word}
use Rattle.listing_successor_events.specs.Events.{can_end, can_end_after, least_event}
use Rattle.listing_successor_events.proofs.Ends.{dead, leads-less}
use Rattle.listing_successor_events.proofs.Events.{Leads, lead-least}
use Rattle.listing_successor_endings.specs.Endings.{least_ending_in, least_ending}

-- v is a way to end, and none comes before it
pub record Ending (h f : ℕ) (v : List ℕ) : Type 0 where
  pub fits : Fits h f v
  pub least : (u : List ℕ) → Fits h f u → ¬ Before u v

-- an event that leads to no end begins no way to end
pub no_way : (h f x : ℕ) → can_end_after h f x ≡ false → (u : List ℕ) → ¬ From (s.state_after_item h f x) u
unfolding can_end_after
no_way h f x e u a = dead (s.state_after_item h f x).height (s.state_after_item h f x).free e u a

ending-more : (h f e : ℕ) (v : List ℕ) → Leads (suc h) f e → Ending (s.state_after_item (suc h) f e).height (s.state_after_item (suc h) f e).free v → Ending (suc h) f (e ∷ v)
ending-more h f e v l r = record { fits = after-fits (suc h) f e v r.fits; least = go }
  where
    go : (u : List ℕ) → Fits (suc h) f u → ¬ Before u (e ∷ v)
    go [] a b = a
    go (y ∷ u) a (inl b) = no_way (suc h) f y (l.least y b) u (fits_after (suc h) f y u a)
    go (y ∷ u) a (inr b) = r.least u (fits_after (suc h) f e u (rw b.0 at a)) b.1

least-ending : (m h f : ℕ) → h + f ≤ m → can_end h f ≡ true → Ending h f (least_ending_in m h f)
unfolding least_ending_in can_end_after
least-ending zero zero (suc f) l q = absurd (true≢false (sym q))
least-ending (suc m) zero (suc f) l q = absurd (true≢false (sym q))
least-ending zero zero zero l q = record { fits = tt; least = λ u a b. b }
least-ending (suc m) zero zero l q = record { fits = tt; least = λ u a b. b }
least-ending zero (suc h) f l q = absurd (omega arith)
least-ending (suc m) (suc h) f l q = ending-more h f e _ d (least-ending m _ _ (let i = leads-less (suc h) f e d.ok in omega arith) d.ok)
  where
    e : ℕ
    e = least_event (suc h) f

    d : Leads (suc h) f e
    d = lead-least h f q

pub ending-least : (h f : ℕ) → can_end h f ≡ true → Ending h f (least_ending h f)
unfolding least_ending
ending-least h f q = least-ending (h + f) h f (omega arith) q

ending-once : (h f : ℕ) (u v : List ℕ) → Ending h f u → Ending h f v → u ≡ v
ending-once h f u v a b = go (compared u v)
  where
    go : Compared u v → u ≡ v
    go (before c) = absurd (b.least u a.fits c)
    go (equal c) = c
    go (after c) = absurd (a.least v b.fits c)

ending-step : (h f : ℕ) → can_end (suc h) f ≡ true → least_ending (suc h) f ≡ least_event (suc h) f ∷ least_ending (s.state_after_item (suc h) f (least_event (suc h) f)).height (s.state_after_item (suc h) f (least_event (suc h) f)).free
unfolding can_end_after
ending-step h f q = ending-once (suc h) f _ _ (ending-least (suc h) f q) (ending-more h f (least_event (suc h) f) _ d (ending-least _ _ d.ok))
  where
    d : Leads (suc h) f (least_event (suc h) f)
    d = lead-least h f q

-- the same where something is pending
pub ends-lead : (h f : ℕ) → h ≢ 0 → can_end h f ≡ true → Leads h f (least_event h f)
ends-lead zero f n q = absurd (n refl)
ends-lead (suc h) f n q = lead-least h f q

pub ending-lead : (h f : ℕ) → h ≢ 0 → can_end h f ≡ true → least_ending h f ≡ least_event h f ∷ least_ending (s.state_after_item h f (least_event h f)).height (s.state_after_item h f (least_event h f)).free
ending-lead zero f n q = absurd (n refl)
ending-lead (suc h) f n q = ending-step h f q

least-0 : (m f : ℕ) → least_ending_in m 0 f ≡ []
unfolding least_ending_in
least-0 zero f = refl
least-0 (suc m) f = refl

pub ending-0 : (f : ℕ) → least_ending 0 f ≡ []
unfolding least_ending
ending-0 f = least-0 (0 + f) f

-- a word of at most 50 edges has room
pub rooted-room : (n x : ℕ) → n ≤ 50 → can_end (state_after_first n x).height (state_after_first n x).free ≡ true → 1 + length (least_ending (state_after_first n x).height (state_after_first n x).free) ≤ 51
rooted-room n x l q = let i = word_length n (x ∷ least_ending (state_after_first n x).height (state_after_first n x).free) (start_word n x (least_ending (state_after_first n x).height (state_after_first n x).free) (ending-least (state_after_first n x).height (state_after_first n x).free q).fits) in omega arith
