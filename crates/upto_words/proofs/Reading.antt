-- A word within a bound, item by item: which items can be read at a state, and the state after each.
use mathlib.Core.List.{List, ◌∷◌}
use Prim.Native.Nat.{ℕ, zero, suc, ◌+◌, ◌≤◌, ◌<◌}
use native.Mathlib.Omega.{arith}
use Rattle.lists.proofs.Tests.{lt-true}
use Rattle.listing.proofs.Completions.{pre-le}
use Rattle.listing_successor_states.specs.declared.StackState.{StackState}
use Rattle.listing_successor_states.specs.States.{state_after_item, state_after_first}
use Rattle.upto_words.specs.Within.{FitsWithin, WordWithin}

-- what fits from a state on
abbrev pub From : StackState → List ℕ → Type 0
From l w = FitsWithin l.height l.free w

-- y can be read where, the top being popped, h labels are pending and f are free
abbrev pub Readable : ℕ → ℕ → ℕ → Type 0
Readable h f zero = Unit {0}
Readable h f (suc zero) = 3 ≤ f
Readable h f (suc (suc zero)) = 1 ≤ f
Readable h f (suc (suc (suc d))) = d < h

-- y can begin a word within n
abbrev pub CanBegin : ℕ → ℕ → Type 0
CanBegin n zero = 1 ≤ n
CanBegin n (suc zero) = 3 ≤ n
CanBegin n (suc (suc y)) = ⊥

-- what fits begins with an item that can be read, and goes on from the state after it
pub item-read : (h f y : ℕ) (v : List ℕ) → FitsWithin (suc h) f (y ∷ v) → Readable h f y × From (state_after_item (suc h) f y) v
item-read h f zero v a = (tt, a)
item-read h zero (suc zero) v a = absurd a
item-read h (suc zero) (suc zero) v a = absurd a
item-read h (suc (suc zero)) (suc zero) v a = absurd a
item-read h (suc (suc (suc f))) (suc zero) v a = (omega arith, a)
item-read h zero (suc (suc zero)) v a = absurd a
item-read h (suc f) (suc (suc zero)) v a = (omega arith, a)
item-read h f (suc (suc (suc d))) v a = (a.0, rw (lt-true d h a.0) a.1)

-- it takes at least one off the height and the free labels
pub read-less : (h f y : ℕ) → Readable h f y → let l = state_after_item (suc h) f y in l.height + l.free < suc h + f
read-less h f zero r = omega arith
read-less h zero (suc zero) r = absurd (omega arith)
read-less h (suc zero) (suc zero) r = absurd (omega arith)
read-less h (suc (suc zero)) (suc zero) r = absurd (omega arith)
read-less h (suc (suc (suc f))) (suc zero) r = omega arith
read-less h zero (suc (suc zero)) r = absurd (omega arith)
read-less h (suc f) (suc (suc zero)) r = omega arith
read-less h f (suc (suc (suc d))) r = let i = pre-le h in rw (lt-true d h r) (omega arith)

pub read-item : (h f y : ℕ) (v : List ℕ) → Readable h f y → From (state_after_item (suc h) f y) v → FitsWithin (suc h) f (y ∷ v)
read-item h f zero v r a = a
read-item h zero (suc zero) v r a = absurd (omega arith)
read-item h (suc zero) (suc zero) v r a = absurd (omega arith)
read-item h (suc (suc zero)) (suc zero) v r a = absurd (omega arith)
read-item h (suc (suc (suc f))) (suc zero) v r a = a
read-item h zero (suc (suc zero)) v r a = absurd (omega arith)
read-item h (suc f) (suc (suc zero)) v r a = a
read-item h f (suc (suc (suc d))) v r a = (r, rw (lt-true d h r) at a)

pub first_read : (n y : ℕ) (v : List ℕ) → WordWithin n (y ∷ v) → CanBegin n y × From (state_after_first n y) v
first_read zero zero v a = absurd a
first_read (suc n) zero v a = (omega arith, a)
first_read zero (suc zero) v a = absurd a
first_read (suc zero) (suc zero) v a = absurd a
first_read (suc (suc zero)) (suc zero) v a = absurd a
first_read (suc (suc (suc n))) (suc zero) v a = (omega arith, a)
first_read n (suc (suc y)) v a = absurd a

pub read_first : (n y : ℕ) (v : List ℕ) → CanBegin n y → From (state_after_first n y) v → WordWithin n (y ∷ v)
read_first zero zero v r a = absurd (omega arith)
read_first (suc n) zero v r a = a
read_first zero (suc zero) v r a = absurd (omega arith)
read_first (suc zero) (suc zero) v r a = absurd (omega arith)
read_first (suc (suc zero)) (suc zero) v r a = absurd (omega arith)
read_first (suc (suc (suc n))) (suc zero) v r a = a
read_first n (suc (suc y)) v r a = absurd r
