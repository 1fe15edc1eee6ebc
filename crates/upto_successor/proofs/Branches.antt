-- The branches of the code's `following`: which of them gives the word that follows, and that 51 places are enough for it.
use mathlib.Core.Path.{◌≡◌, refl, ◌∙◌}
use mathlib.Core.Logic.{◌≢◌, ◌⊎◌, inl, inr}
use mathlib.Core.List.{List, [], ◌∷◌, ◌++◌}
use Prim.Native.Nat.{ℕ, zero, suc, ◌+◌, ◌≤◌, ◌<◌}
use native.Mathlib.Numerals.{add-one}
use native.Mathlib.Omega.{arith}
use lib.ListN.{length, get_or, take, replicate}
use Rattle.lists.proofs.Lists.{rest-is}
use Rattle.listing_successor_states.specs.declared.StackState.{StackState}
use Rattle.listing_successor_states.specs.States.{state_after_first}
use Rattle.listing_successor_states.proofs.States.{start_small}
use Rattle.listing_successor_endings.specs.declared.Next.{Next}
use Rattle.listing_successor_endings.specs.Endings.{shared_word}
use Rattle.listing_successor.specs.Successor.{keep_or, first_above}
use Rattle.listing_successor.proofs.Forwards.{rest}
use Rattle.upto_words.specs.Within.{FitsWithin, WordWithin}
use Rattle.upto_words.proofs.Reading.{first_read}
use Rattle.upto_words.specs.Successor.{ended_by_w, place_after, following, following_shared}
use Rattle.upto_successor.specs.Raising.{RaisesWithin}

-- what follows w in the single list is v, and both begin with the same k items
pub record Following (n : ℕ) (w : List ℕ) (k : ℕ) (v : List ℕ) : Type 0 where
  pub word : following n w ≡ v
  pub shared : following_shared n w ≡ k

pub following-held : (n : ℕ) (w : List ℕ) (k : ℕ) (v : List ℕ) (r : Next) → Following n w k v → r ≡ shared_word k v → r ≡ shared_word (following_shared n w) (following n w)
following-held n w k v r F e = rw (F.word, F.shared) e

pub following-first : (n : ℕ) (w : List ℕ) → length w ≡ 0 → Following n w 0 (0 ∷ 0 ∷ [])
unfolding following following_shared
following-first n [] z = record { word = refl; shared = refl }
following-first n (x ∷ w) z = absurd (omega arith)

pub within-rest : (n : ℕ) (w : List ℕ) (l : StackState) → length w ≢ 0 → l ≡ state_after_first n (get_or w 0 0) → (w ≡ []) ⊎ WordWithin n w → FitsWithin l.height l.free (rest w)
within-rest n w l z q (inl e) = absurd (z (rw e))
within-rest n [] l z q (inr a) = absurd a
within-rest n (x ∷ w) l z q (inr a) = rw (q, rest-is x w) (first_read n x w a).1

-- w is not empty, its first item leads to l, and from there on the item at `place` can be raised
pub record Searched (n : ℕ) (l : StackState) (place event pending : ℕ) (w : List ℕ) : Type 0 where
  pub there : length w ≢ 0
  pub state : l ≡ state_after_first n (get_or w 0 0)
  pub raises : RaisesWithin l.height l.free (rest w) place event pending

module _ (n : ℕ) (l : StackState) (place event pending : ℕ) where
  pub raised-room : (w : List ℕ) → Searched n l place event pending w → n ≤ 50 → event ≢ 0 → (place + 1 ≤ length w) × (place + 1 + 1 + pending ≤ 51)
  raised-room [] S s e = absurd (S.there refl)
  raised-room (x ∷ w) S s e =
      let i = rw rest-is at (S.raises.within e) in
      let j = S.raises.room e in
      let m = rw (← S.state) at (start_small n x s) in
      (omega arith, omega arith)

  pub following-raised : (w : List ℕ) → Searched n l place event pending w → event ≢ 0 → Following n w (place + 1) (take (place + 1) w ++ (event ∷ replicate pending 0))
  unfolding following following_shared
  following-raised [] S e = absurd (S.there refl)
  following-raised (x ∷ w) S e = record {
    word = rw (add-one, ← S.state, (rw rest-is at (S.raises.some e))) (more (take place w) _);
    shared = rw (add-one, ← S.state, (rw rest-is at (S.raises.some e)), (rw rest-is at S.raises.shared)) (at (take place w));
  }
    where
      more : (u r : List ℕ) → keep_or x (u ++ (event ∷ replicate pending 0)) r ≡ x ∷ (u ++ (event ∷ replicate pending 0))
      more [] r = refl
      more (y ∷ u) r = refl

      at : (u : List ℕ) → place_after (u ++ (event ∷ replicate pending 0)) place ≡ suc place
      at [] = refl
      at (y ∷ u) = refl

  -- where no item after the first is raised, the first is
  following-root : (w : List ℕ) → Searched n l place event pending w → event ≡ 0 → Following n w 0 (ended_by_w (first_above n (get_or w 0 0)) (state_after_first n (first_above n (get_or w 0 0))))
  unfolding following following_shared
  following-root [] S z = absurd (S.there refl)
  following-root (x ∷ w) S z = record { word = rw (← S.state, (rw rest-is at (S.raises.none z))); shared = rw (← S.state, (rw rest-is at (S.raises.none z))) }

  pub following-rooted : (w : List ℕ) → Searched n l place event pending w → event ≡ 0 → get_or w 0 0 ≡ 0 → 3 ≤ n → Following n w 0 (1 ∷ replicate 3 0)
  following-rooted w S z x k = let r = following-root w S z in record { word = r.word ∙ rw x (up n k); shared = r.shared }
    where
      up : (n : ℕ) → 3 ≤ n → ended_by_w (first_above n 0) (state_after_first n (first_above n 0)) ≡ 1 ∷ replicate 3 0
      up zero k = absurd (omega arith)
      up (suc zero) k = absurd (omega arith)
      up (suc (suc zero)) k = absurd (omega arith)
      up (suc (suc (suc n))) k = refl

  pub following-none : (w : List ℕ) → Searched n l place event pending w → event ≡ 0 → (get_or w 0 0 ≢ 0) ⊎ (n < 3) → Following n w 0 []
  following-none w S z k = let r = following-root w S z in record { word = r.word ∙ down n (get_or w 0 0) k; shared = r.shared }
    where
      down : (n x : ℕ) → (x ≢ 0) ⊎ (n < 3) → ended_by_w (first_above n x) (state_after_first n (first_above n x)) ≡ []
      down n (suc x) k = refl
      down n zero (inl k) = absurd (k refl)
      down zero zero (inr k) = refl
      down (suc zero) zero (inr k) = refl
      down (suc (suc zero)) zero (inr k) = refl
      down (suc (suc (suc n))) zero (inr k) = absurd (omega arith)
