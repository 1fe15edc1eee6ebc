-- Reading a word: what is left of it fits the state reached exactly if the whole fits the state where the reading began.
use mathlib.Core.Path.{◌≡◌, refl}
use mathlib.Core.Logic.{◌≢◌}
use mathlib.Core.Bool.{true, false}
use mathlib.Core.List.{List, [], ◌∷◌}
use Prim.Native.Nat.{ℕ, zero, suc, ◌+◌, ◌-◌, ◌≤◌, ◌<◌}
use native.Mathlib.Numerals.{add-one}
use native.Mathlib.Omega.{arith}
use lib.Dec.{eqb}
use lib.ListN.{length, get_or, take, drop, drop_of_length-le}
use lib.Seq.{drop-cons}
use Rattle.lists.proofs.Tests.{eqb-true, eqb-false}
use Rattle.lists.proofs.Lists.{rest-is}
use Rattle.words.specs.Shape.{Fits, Word}
use Rattle.listing_successor_states.specs.declared.StackState.{StackState}
use Rattle.listing_successor.specs.Successor.{state_after_item, state_after_first}
use Rattle.listing_successor_states.proofs.States.{fits_after, after-fits, word-start, start_word, after_small}

-- after i items of w, read from h₀ and f₀ on, the state is h and f
pub record Forth (h₀ f₀ : ℕ) (w : List ℕ) (i h f : ℕ) : Type 0 where
  pub small : h + f ≤ 50
  pub there : Fits h₀ f₀ w → Fits h f (drop i w)
  pub back : Fits h f (drop i w) → Fits h₀ f₀ w

module _ (h₀ f₀ : ℕ) (w : List ℕ) (i h f : ℕ) (R : Forth h₀ f₀ w i h f) where
  pub forth-more : (l : StackState) → i < length w → l ≡ state_after_item h f (get_or w i 0) → Forth h₀ f₀ w (i + 1) l.height l.free
  forth-more l k e = rw (e, add-one) record {
    small = after_small 50 h f (get_or w i 0) (omega arith) R.small;
    there = λ a. fits_after h f (get_or w i 0) (drop (suc i) w) (rw (drop-cons w i 0 k) at (R.there a));
    back = λ a. R.back (rw (drop-cons w i 0 k) (after-fits h f (get_or w i 0) (drop (suc i) w) a));
  }

  ended : length w ≤ i → drop i w ≡ []
  ended k = drop_of_length-le w k

  pub forth-0 : length w ≤ i → h ≡ 0 → (eqb f 0 ≡ true → Fits h₀ f₀ w) × (eqb f 0 ≡ false → ¬ Fits h₀ f₀ w)
  forth-0 k z = (λ e. R.back (rw (ended k, z, eqb-true f 0 e) tt), λ e a. none f (eqb-false f 0 e) (rw (ended k, z) at (R.there a)))
    where
      none : (f : ℕ) → f ≢ 0 → ¬ Fits 0 f []
      none zero n a = n refl
      none (suc f) n a = a

  pub forth-not : length w ≤ i → h ≢ 0 → ¬ Fits h₀ f₀ w
  forth-not k n a = none h n (rw (ended k) at (R.there a))
    where
      none : (h : ℕ) → h ≢ 0 → ¬ Fits h f []
      none zero n a = n refl
      none (suc h) n a = a

-- ---- a word by its first item and the rest of it

-- the items after the first, as a part of the list
abbrev pub rest : List ℕ → List ℕ
rest w = take (length w - 1) (drop 1 w)

pub word-to-rest : (n : ℕ) (w : List ℕ) (l : StackState) → l ≡ state_after_first n (get_or w 0 0) → Word n w → Fits l.height l.free (rest w)
word-to-rest n [] l e a = absurd a
word-to-rest n (x ∷ w) l e a = rw (e, rest-is x w) (word-start n x w a)

pub rest-to-word : (n : ℕ) (w : List ℕ) (l : StackState) → length w ≢ 0 → l ≡ state_after_first n (get_or w 0 0) → Fits l.height l.free (rest w) → Word n w
rest-to-word n [] l z e a = absurd (z refl)
rest-to-word n (x ∷ w) l z e a = start_word n x w (rw (e, rest-is x w) at a)

pub empty-not : (n : ℕ) (w : List ℕ) → length w ≡ 0 → ¬ Word n w
empty-not n [] z a = a
empty-not n (x ∷ w) z a = omega arith
