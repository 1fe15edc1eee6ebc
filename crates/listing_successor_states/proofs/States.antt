-- States: an item that can be read leads to the state of what fits after it.
use mathlib.Core.Path.{◌≡◌, refl}
use mathlib.Core.Bool.{Bool, true, false, cond}
use mathlib.Core.List.{List, [], ◌∷◌}
use Prim.Native.Nat.{ℕ, zero, suc, ◌+◌, ◌≤◌, ◌<◌}
use native.Mathlib.Omega.{arith}
use lib.Dec.{ltb}
use Rattle.lists.proofs.Tests.{lt-true, ltb-true}
use Rattle.words.specs.Shape.{pre, Fits, Word}
use Rattle.listing.proofs.Completions.{pre-le}
use Rattle.listing_successor_states.specs.declared.StackState.{StackState}
use Rattle.listing_successor_states.specs.States.{stack_state, dead_end, state_after_item, state_after_first}

-- what fits from a state on
abbrev pub From : StackState → List ℕ → Type 0
From l w = Fits l.height l.free w

pub dead-end-none : (w : List ℕ) → ¬ From dead_end w
dead-end-none [] a = a
dead-end-none (x ∷ w) a = a

pub fits_after : (h f x : ℕ) (w : List ℕ) → Fits h f (x ∷ w) → From (state_after_item h f x) w
fits_after zero f x w a = absurd a
fits_after (suc h) f zero w a = a
fits_after (suc h) zero (suc zero) w a = absurd a
fits_after (suc h) (suc zero) (suc zero) w a = absurd a
fits_after (suc h) (suc (suc zero)) (suc zero) w a = absurd a
fits_after (suc h) (suc (suc (suc f))) (suc zero) w a = a
fits_after (suc h) zero (suc (suc zero)) w a = absurd a
fits_after (suc h) (suc f) (suc (suc zero)) w a = a
fits_after (suc h) f (suc (suc (suc d))) w a = rw (lt-true d h a.0) a.1

pub after-fits : (h f x : ℕ) (w : List ℕ) → From (state_after_item h f x) w → Fits h f (x ∷ w)
after-fits zero f x w a = absurd (dead-end-none w a)
after-fits (suc h) f zero w a = a
after-fits (suc h) zero (suc zero) w a = absurd (dead-end-none w a)
after-fits (suc h) (suc zero) (suc zero) w a = absurd (dead-end-none w a)
after-fits (suc h) (suc (suc zero)) (suc zero) w a = absurd (dead-end-none w a)
after-fits (suc h) (suc (suc (suc f))) (suc zero) w a = a
after-fits (suc h) zero (suc (suc zero)) w a = absurd (dead-end-none w a)
after-fits (suc h) (suc f) (suc (suc zero)) w a = a
after-fits (suc h) f (suc (suc (suc d))) w a = go (ltb d h) refl a
  where
    go : (b : Bool) → ltb d h ≡ b → From (cond b (stack_state (pre h) f) dead_end) w → (d < h) × Fits (pre h) f w
    go true e a = (ltb-true d h e, a)
    go false e a = absurd (dead-end-none w a)

pub word-start : (n x : ℕ) (w : List ℕ) → Word n (x ∷ w) → From (state_after_first n x) w
word-start zero zero w a = absurd a
word-start (suc n) zero w a = a
word-start zero (suc zero) w a = absurd a
word-start (suc zero) (suc zero) w a = absurd a
word-start (suc (suc zero)) (suc zero) w a = absurd a
word-start (suc (suc (suc n))) (suc zero) w a = a
word-start n (suc (suc x)) w a = absurd a

pub start_word : (n x : ℕ) (w : List ℕ) → From (state_after_first n x) w → Word n (x ∷ w)
start_word zero zero w a = absurd (dead-end-none w a)
start_word (suc n) zero w a = a
start_word zero (suc zero) w a = absurd (dead-end-none w a)
start_word (suc zero) (suc zero) w a = absurd (dead-end-none w a)
start_word (suc (suc zero)) (suc zero) w a = absurd (dead-end-none w a)
start_word (suc (suc (suc n))) (suc zero) w a = a
start_word n (suc (suc x)) w a = absurd (dead-end-none w a)

-- no item leads above a bound on both
pub after_small : (m h f x : ℕ) → 1 ≤ m → h + f ≤ m → (state_after_item h f x).height + (state_after_item h f x).free ≤ m
after_small m zero f x l s = l
after_small m (suc h) f zero l s = omega arith
after_small m (suc h) zero (suc zero) l s = l
after_small m (suc h) (suc zero) (suc zero) l s = l
after_small m (suc h) (suc (suc zero)) (suc zero) l s = l
after_small m (suc h) (suc (suc (suc f))) (suc zero) l s = omega arith
after_small m (suc h) zero (suc (suc zero)) l s = l
after_small m (suc h) (suc f) (suc (suc zero)) l s = omega arith
after_small m (suc h) f (suc (suc (suc d))) l s = go (ltb d h)
  where
    go : (b : Bool) → (cond b (stack_state (pre h) f) dead_end).height + (cond b (stack_state (pre h) f) dead_end).free ≤ m
    go true = let i = pre-le h in omega arith
    go false = l

pub start_small : (n x : ℕ) → n ≤ 50 → (state_after_first n x).height + (state_after_first n x).free ≤ 50
start_small zero zero l = omega arith
start_small (suc n) zero l = omega arith
start_small zero (suc zero) l = omega arith
start_small (suc zero) (suc zero) l = omega arith
start_small (suc (suc zero)) (suc zero) l = omega arith
start_small (suc (suc (suc n))) (suc zero) l = omega arith
start_small n (suc (suc x)) l = omega arith
