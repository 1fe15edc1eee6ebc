-- `next_ending` and `successor` give the word that follows in dictionary order: the last item that can be raised is raised as little as can be,
-- and the least way to end comes after it.
use mathlib.Core.Path.{◌≡◌, refl}
use mathlib.Core.Logic.{◌≢◌, inl, inr}
use mathlib.Core.Bool.{Bool, true, false, true≢false, cond}
use mathlib.Core.List.{List, [], ◌∷◌}
use Prim.Native.Nat.{ℕ, zero, suc, ◌≤◌, ◌<◌}
use native.Mathlib.Omega.{arith}
use Rattle.words.specs.Order.{Before}
use Rattle.words.specs.Shape.{Fits, Word}
use Rattle.listing_successor_states.specs.declared.StackState.{StackState}
use Rattle.listing_successor.specs.Successor.{state_after_item, state_after_first, can_end, can_end_after, least_above, least_ending, raised_to, keep_or, next_ending, first_word, first_above, successor}
use Rattle.listing_successor_states.proofs.States.{From, fits_after, after-fits, word-start, start_word}
use Rattle.listing_successor_events.proofs.Ends.{dead}
use Rattle.listing_successor_events.proofs.Events.{Seeks, above-least}
use Rattle.listing_successor_endings.proofs.Endings.{Ending, ending-least}

-- T is the least first item above U, where three labels can be had
root-least : (n x : ℕ) → Seeks (λ y. can_end (state_after_first n y).height (state_after_first n y).free) x 1 (first_above n x)
root-least n (suc x) = record { none = λ z y a b. later y (omega arith); some = λ z. absurd (z refl); least = λ y a b c. absurd (omega arith) }
  where
    later : (y : ℕ) → 2 ≤ y → can_end (state_after_first n y).height (state_after_first n y).free ≡ false
    later zero l = absurd (omega arith)
    later (suc zero) l = absurd (omega arith)
    later (suc (suc y)) l = refl
root-least n zero = go n
  where
    few : (n : ℕ) → can_end (state_after_first n 1).height (state_after_first n 1).free ≡ false → Seeks (λ y. can_end (state_after_first n y).height (state_after_first n y).free) 0 1 0
    few n q = record { none = λ z y a b. at y a; some = λ z. absurd (z refl); least = λ y a b c. absurd (omega arith) }
      where
        at : (y : ℕ) → 0 < y → can_end (state_after_first n y).height (state_after_first n y).free ≡ false
        at zero l = absurd (omega arith)
        at (suc zero) l = q
        at (suc (suc y)) l = refl

    go : (n : ℕ) → Seeks (λ y. can_end (state_after_first n y).height (state_after_first n y).free) 0 1 (first_above n 0)
    go zero = few 0 refl
    go (suc zero) = few 1 refl
    go (suc (suc zero)) = few 2 refl
    go (suc (suc (suc g))) = record { none = λ z. absurd (omega arith); some = λ z. (omega arith, omega arith, refl); least = λ y a b c. absurd (omega arith) }

-- among the lists of which P holds, v is the next after w; [] where there is none
pub record Follows (P : List ℕ → Type 0) (w v : List ℕ) : Type 0 where
  pub none : v ≡ [] → (u : List ℕ) → P u → ¬ Before w u
  pub some : v ≢ [] → P v × Before w v
  pub nearest : (u : List ℕ) → P u → Before w u → ¬ Before u v

pub cons-not : (x : ℕ) (w : List ℕ) → (x ∷ w) ≢ []
cons-not x w e = let z : ◌≡◌ {A = ℕ} 0 1 = cc in omega arith

-- P by the first item: a x is the state after the item x
module _ (P : List ℕ → Type 0) (a : ℕ → StackState) (to : (x : ℕ) (w : List ℕ) → P (x ∷ w) → From (a x) w) (from : (x : ℕ) (w : List ℕ) → From (a x) w → P (x ∷ w)) where
  -- the word goes on after x
  further : (x : ℕ) (w v : List ℕ) → v ≢ [] → Follows (From (a x)) w v → Follows P (x ∷ w) (x ∷ v)
  further x w v n F = record { none = λ e. absurd (cons-not x v e); some = λ e. let i = F.some n in (from x v i.0, inr (refl, i.1)); nearest = near }
    where
      near : (u : List ℕ) → P u → Before (x ∷ w) u → ¬ Before u (x ∷ v)
      near [] p b c = b
      near (y ∷ u) p (inl b) (inl c) = omega arith
      near (y ∷ u) p (inl b) (inr c) = let e = c.0 in omega arith
      near (y ∷ u) p (inr b) (inl c) = let e = b.0 in omega arith
      near (y ∷ u) p (inr b) (inr c) = F.nearest u (to x u (rw c.0 at p)) b.1 c.1

  module _ (x e : ℕ) (S : Seeks (λ y. can_end (a y).height (a y).free) x 1 e) (w : List ℕ) (N : (u : List ℕ) → From (a x) u → ¬ Before w u) where
    -- x is the last item that can be raised, and is raised to e
    turned : e ≢ 0 → Follows P (x ∷ w) (e ∷ least_ending (a e).height (a e).free)
    turned n = record { none = λ q. absurd (cons-not e _ q); some = λ q. (from e _ E.fits, inl (S.some n).0); nearest = near }
      where
        E : Ending (a e).height (a e).free (least_ending (a e).height (a e).free)
        E = ending-least (a e).height (a e).free (S.some n).2

        near : (u : List ℕ) → P u → Before (x ∷ w) u → ¬ Before u (e ∷ least_ending (a e).height (a e).free)
        near [] p b c = b
        near (y ∷ u) p (inl b) (inl c) = dead (a y).height (a y).free (S.least y b (omega arith) c) u (to y u p)
        near (y ∷ u) p (inl b) (inr c) = E.least u (to e u (rw c.0 at p)) c.1
        near (y ∷ u) p (inr b) c = N u (to x u (rw (← b.0) at p)) b.1

    -- nothing can be raised
    last : e ≡ 0 → Follows P (x ∷ w) []
    last z = record { none = λ q. gone; some = λ q. absurd (q refl); nearest = λ u p b c. c }
      where
        gone : (u : List ℕ) → P u → ¬ Before (x ∷ w) u
        gone [] p b = b
        gone (y ∷ u) p (inl b) = dead (a y).height (a y).free (S.none z y b (omega arith)) u (to y u p)
        gone (y ∷ u) p (inr b) = N u (to x u (rw (← b.0) at p)) b.1

  follows-onward : (x e : ℕ) → Seeks (λ y. can_end (a y).height (a y).free) x 1 e → (w v : List ℕ) → Follows (From (a x)) w v → Follows P (x ∷ w) (keep_or x v (raised_to e (a e)))
  follows-onward x e S w (y ∷ v) F = further x w (y ∷ v) (cons-not y v) F
  follows-onward x zero S w [] F = last x 0 S w (F.none refl) refl
  follows-onward x (suc e) S w [] F = turned x (suc e) S w (F.none refl) (λ q. omega arith)

pub ways-follow : (w : List ℕ) (h f : ℕ) → Fits h f w → Follows (Fits h f) w (next_ending h f w)
unfolding next_ending can_end_after
ways-follow [] zero zero p = record { none = λ e. alone; some = λ n. absurd (n refl); nearest = λ u q b c. c }
  where
    alone : (u : List ℕ) → Fits 0 0 u → ¬ Before [] u
    alone [] q b = b
    alone (x ∷ u) q b = q
ways-follow [] zero (suc f) p = absurd p
ways-follow [] (suc h) f p = absurd p
ways-follow (x ∷ w) zero f p = absurd p
ways-follow (x ∷ w) (suc h) f p = follows-onward (Fits (suc h) f) (state_after_item (suc h) f) (fits_after (suc h) f) (after-fits (suc h) f) x (least_above (suc h) f x) (above-least (suc h) f x) w _ (ways-follow w _ _ (fits_after (suc h) f x w p))

pub words-follow : (n : ℕ) (w : List ℕ) → Word n w → Follows (Word n) w (successor n w)
unfolding successor
words-follow n [] p = absurd p
words-follow n (x ∷ w) p = follows-onward (Word n) (state_after_first n) (word-start n) (start_word n) x (first_above n x) (root-least n x) w _ (ways-follow w _ _ (word-start n x w p))

-- the first word: U where that leads to an end, else T
pub first-follows : (n : ℕ) → 1 ≤ n → Follows (Word n) [] (first_word n)
unfolding first_word
first-follows n l = go (can_end (state_after_first n 0).height (state_after_first n 0).free) refl
  where
    v : Bool → List ℕ
    v b = cond b (0 ∷ least_ending (state_after_first n 0).height (state_after_first n 0).free) (1 ∷ least_ending (state_after_first n 1).height (state_after_first n 1).free)

    first_by : (e : ℕ) → can_end (state_after_first n e).height (state_after_first n e).free ≡ true → ((y : ℕ) → y < e → can_end (state_after_first n y).height (state_after_first n y).free ≡ false) → Follows (Word n) [] (e ∷ least_ending (state_after_first n e).height (state_after_first n e).free)
    first_by e q k = record { none = λ z. absurd (cons-not e (least_ending (state_after_first n e).height (state_after_first n e).free) z); some = λ z. (start_word n e (least_ending (state_after_first n e).height (state_after_first n e).free) E.fits, tt); nearest = near }
      where
        E : Ending (state_after_first n e).height (state_after_first n e).free (least_ending (state_after_first n e).height (state_after_first n e).free)
        E = ending-least (state_after_first n e).height (state_after_first n e).free q

        near : (u : List ℕ) → Word n u → Before [] u → ¬ Before u (e ∷ least_ending (state_after_first n e).height (state_after_first n e).free)
        near [] p b c = b
        near (y ∷ u) p b (inl c) = dead (state_after_first n y).height (state_after_first n y).free (k y c) u (word-start n y u p)
        near (y ∷ u) p b (inr c) = E.least u (word-start n e u (rw c.0 at p)) c.1

    three : (n : ℕ) → 1 ≤ n → can_end (state_after_first n 0).height (state_after_first n 0).free ≡ false → can_end (state_after_first n 1).height (state_after_first n 1).free ≡ true
    three zero l q = absurd (omega arith)
    three (suc zero) l q = absurd (true≢false q)
    three (suc (suc zero)) l q = absurd (true≢false q)
    three (suc (suc (suc n))) l q = refl

    below : can_end (state_after_first n 0).height (state_after_first n 0).free ≡ false → (y : ℕ) → y < 1 → can_end (state_after_first n y).height (state_after_first n y).free ≡ false
    below q zero c = q
    below q (suc y) c = absurd (omega arith)

    go : (b : Bool) → can_end (state_after_first n 0).height (state_after_first n 0).free ≡ b → Follows (Word n) [] (v b)
    go true q = first_by 0 q (λ y c. absurd (omega arith))
    go false q = first_by 1 (three n l q) (below q)

pub first-not : (n : ℕ) → first_word n ≢ []
unfolding first_word
first-not n = go (can_end (state_after_first n 0).height (state_after_first n 0).free)
  where
    go : (b : Bool) → cond b (0 ∷ least_ending (state_after_first n 0).height (state_after_first n 0).free) (1 ∷ least_ending (state_after_first n 1).height (state_after_first n 1).free) ≢ []
    go true = cons-not 0 (least_ending (state_after_first n 0).height (state_after_first n 0).free)
    go false = cons-not 1 (least_ending (state_after_first n 1).height (state_after_first n 1).free)
