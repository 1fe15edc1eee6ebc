-- The branches of the code's `successor` and `first_word`: which of them gives the word that follows, and that 51 places are enough for it.
use mathlib.Core.Path.{◌≡◌, refl, ap, ◌∙◌}
use mathlib.Core.Logic.{◌≢◌, ◌⊎◌, inl, inr}
use mathlib.Core.Bool.{true, false, true≢false}
use mathlib.Core.List.{List, [], ◌∷◌, ◌++◌}
use Prim.Native.Nat.{ℕ, zero, suc, ◌+◌, ◌≤◌, ◌<◌}
use native.Mathlib.Numerals.{add-one}
use native.Mathlib.Omega.{arith}
use lib.ListN.{length, get_or, take, length-append}
use lib.Seq.{length-take-le}
use Rattle.lists.proofs.Lists.{rest-is}
use Rattle.words.specs.Shape.{Word}
use Rattle.words.proofs.Shape.{word_length}
use Rattle.listing_successor.specs.Successor.{state_after_first, can_end, least_ending, root_raised, first_word, successor}
use Rattle.listing_successor.specs.Reading.{Raises}
use Rattle.listing_successor.proofs.Backwards.{keep-behind}
use Rattle.listing_successor.proofs.Follows.{words-follow, cons-not}
use Rattle.listing_successor.proofs.Forwards.{rest}

pub following-room : (n : ℕ) (w : List ℕ) → n ≤ 50 → Word n w → length (successor n w) ≤ 51
following-room n w l a = go (successor n w) (λ e. ((words-follow n w a).some e).0)
  where
    go : (v : List ℕ) → (v ≢ [] → Word n v) → length v ≤ 51
    go [] k = omega arith
    go (x ∷ v) k = let i = word_length n (x ∷ v) (k (cons-not x v)) in omega arith

-- T leads to an end where it can stand, and it can where U leads to none
pub start-T-ends : (n : ℕ) → 3 ≤ n → can_end (state_after_first n 1).height (state_after_first n 1).free ≡ true
start-T-ends zero l = absurd (omega arith)
start-T-ends (suc zero) l = absurd (omega arith)
start-T-ends (suc (suc zero)) l = absurd (omega arith)
start-T-ends (suc (suc (suc n))) l = refl

pub start-U-dead : (n : ℕ) → 1 ≤ n → can_end (state_after_first n 0).height (state_after_first n 0).free ≡ false → 3 ≤ n
start-U-dead zero l q = absurd (omega arith)
start-U-dead (suc zero) l q = absurd (true≢false q)
start-U-dead (suc (suc zero)) l q = absurd (true≢false q)
start-U-dead (suc (suc (suc n))) l q = omega arith

-- a list that is empty or a word, and is not empty
pub word-there : (n : ℕ) (w : List ℕ) → (w ≡ []) ⊎ Word n w → length w ≢ 0 → Word n w
word-there n w (inl e) z = absurd (z (rw e))
word-there n w (inr a) z = a

pub following-first : (n : ℕ) (w : List ℕ) → length w ≡ 0 → successor n w ≡ first_word n
unfolding successor
following-first n [] z = refl
following-first n (x ∷ w) z = absurd (omega arith)

-- where only the first item can be raised: U becomes T, or the word is the last
pub root-up : (n x : ℕ) → x ≡ 0 → 3 ≤ n → root_raised n x ≡ 1 ∷ least_ending (state_after_first n 1).height (state_after_first n 1).free
root-up n x e l = rw e (up n l)
  where
    up : (n : ℕ) → 3 ≤ n → root_raised n 0 ≡ 1 ∷ least_ending (state_after_first n 1).height (state_after_first n 1).free
    up zero l = absurd (omega arith)
    up (suc zero) l = absurd (omega arith)
    up (suc (suc zero)) l = absurd (omega arith)
    up (suc (suc (suc n))) l = refl

pub root-down : (n x : ℕ) → (x ≢ 0) ⊎ (n < 3) → root_raised n x ≡ []
root-down n (suc x) k = refl
root-down n zero (inl k) = absurd (k refl)
root-down zero zero (inr k) = refl
root-down (suc zero) zero (inr k) = refl
root-down (suc (suc zero)) zero (inr k) = refl
root-down (suc (suc (suc n))) zero (inr k) = absurd (omega arith)

module _ (n : ℕ) where
  -- the state after the first item
  abbrev height : List ℕ → ℕ
  height w = (state_after_first n (get_or w 0 0)).height

  abbrev free : List ℕ → ℕ
  free w = (state_after_first n (get_or w 0 0)).free

  module _ (place event h f : ℕ) where
    pub following-raised : (w : List ℕ) → length w ≢ 0 → event ≢ 0 → Raises (height w) (free w) (rest w) place event h f → successor n w ≡ take (place + 1) w ++ (event ∷ least_ending h f)
    unfolding successor
    following-raised [] z e R = absurd (z refl)
    following-raised (x ∷ w) z e R = rw (add-one, (rw rest-is at (R.some e))) (keep-behind x (take place w) event (least_ending h f) _)

    pub raised-room : (w : List ℕ) → n ≤ 50 → Word n w → length w ≢ 0 → event ≢ 0 → Raises (height w) (free w) (rest w) place event h f → (place + 1 ≤ length w) × (place + 1 + 1 + length (least_ending h f) ≤ 51)
    raised-room [] l a z e R = absurd a
    raised-room (x ∷ w) l a z e R =
        let i = rw rest-is at (R.within e) in
        let k : place + 1 ≤ suc (length w) = omega arith in
        let j = simp (length-append, length-take-le (place + 1) (x ∷ w) k) at (ap length (following-raised (x ∷ w) z e R)) in
        let m = following-room n (x ∷ w) l a in
        (k, omega arith)

    module _ (z : event ≡ 0) where
      onward-root : (w : List ℕ) → length w ≢ 0 → Raises (height w) (free w) (rest w) place event h f → successor n w ≡ root_raised n (get_or w 0 0)
      unfolding successor
      onward-root [] l R = absurd (l refl)
      onward-root (x ∷ w) l R = rw (rw rest-is at (R.none z))

      pub following-rooted : (w : List ℕ) → length w ≢ 0 → Raises (height w) (free w) (rest w) place event h f → get_or w 0 0 ≡ 0 → 3 ≤ n → successor n w ≡ 1 ∷ least_ending (state_after_first n 1).height (state_after_first n 1).free
      following-rooted w l R x k = onward-root w l R ∙ root-up n (get_or w 0 0) x k

      pub following-none : (w : List ℕ) → length w ≢ 0 → Raises (height w) (free w) (rest w) place event h f → (get_or w 0 0 ≢ 0) ⊎ (n < 3) → successor n w ≡ []
      following-none w l R k = onward-root w l R ∙ root-down n (get_or w 0 0) k
