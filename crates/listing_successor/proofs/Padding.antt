-- The word that follows in 51 places.
use mathlib.Core.Path.{◌≡◌}
use mathlib.Core.List.{List}
use Prim.Native.Nat.{ℕ}
use Rattle.listing_successor.specs.declared.Held.{Held}
use Rattle.listing_successor.specs.Successor.{successor, word_as_held, shared_word}
use Rattle.listing_successor.specs.Promises.{Next, SuccessorPromise}

pub held_by : (n : ℕ) (w : List ℕ) (r : Next) → SuccessorPromise n w r → ◌≡◌ {A = Held} record { length = r.length; items = r.items } (word_as_held (successor n w))
held_by n w r S = rw (S.length_is, S.items_are)

pub succeeds : (n k : ℕ) (w v : List ℕ) (r : Next) → successor n w ≡ v → r ≡ shared_word k v → SuccessorPromise n w r
succeeds n k w v r e q = rw q record { length_is = rw e; items_are = rw e }
