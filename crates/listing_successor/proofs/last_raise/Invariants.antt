-- `last_raise` meets its contract. Invariant: the items before i lead to the state, and no item from i on can be raised; so the first item
-- on the way back that can be raised is the last of the word.
use Prim.Native.Nat.{ℕ, ◌+◌, ◌≤◌}
use Rattle.words.specs.Shape.{Fits}
use Rattle.listing_successor.proofs.Backwards.{Back}
use Rattle.listing_successor.proofs.last_raise.Given as goal

abbrev pub invariant-loop-i : goal.invariant-loop-i
invariant-loop-i l = (l.h + l.f ≤ 50) × ((H F : ℕ) → Fits H F l.items → H + F ≤ 50 → Back H F l.items l.i l.h l.f)
