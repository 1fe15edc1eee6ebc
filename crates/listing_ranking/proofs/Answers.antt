-- The word at a position is not longer than the word list that diagram at a position asks for.
use Prim.Native.Nat.{ℕ, suc, ◌≤◌}
use lib.ListN.{length}
use Rattle.lists.specs.Ranges.{OneTo}
use Rattle.words.proofs.Shape.{word_length}
use Rattle.listing.specs.Listing.{count}
use Rattle.listing.specs.Position.{word_at}
use Rattle.listing.proofs.Positions.{at-word}

pub at_length : (n p : ℕ) → OneTo (count n) p → length (word_at n p) ≤ suc n
at_length n p e = word_length n (word_at n p) (at-word n p e)
