-- The listing of a size, from the theorems of crate listing.
use mathlib.Core.List.{List}
use Prim.Native.Nat.{ℕ, zero, suc, ◌≤◌, ◌<◌}
use native.Mathlib.Omega.{arith}
use Rattle.lists.specs.Ranges.{OneTo}
use Rattle.lists.proofs.Lists.{all-mem}
use Rattle.words.specs.Order.{Before}
use Rattle.words.specs.Shape.{Word}
use Rattle.words.proofs.Shape.{word-spells, spells-word}
use Rattle.labelling.specs.Labelling.{word_of}
use Rattle.listing.specs.Listing.{listing, count}
use Rattle.listing.specs.Position.{word_at, position}
use Rattle.listing.proofs.Listing.{listing-words, listing-complete, listing-sorted}
use Rattle.listing.proofs.Positions.{sorted-at, at-word, position_in, at_position, position_at}
use Rattle.theorems.specs.Listing.{Listing, ListingHolds}
use Rattle.theorems.proofs.FirstList.{placed-once}

increasing : (n p q : ℕ) → OneTo (count n) p → OneTo (count n) q → p < q → Before (word_at n p) (word_at n q)
unfolding word_at count
increasing n zero q e f l = absurd (omega arith)
increasing n (suc i) zero e f l = absurd (omega arith)
increasing n (suc i) (suc j) e f l = sorted-at (listing n) i j (listing-sorted n) (omega arith) f.1

pub listing-holds : ListingHolds
listing-holds n l = record {
  in_order = listing-sorted n;
  exactly = λ w. (λ m. word-spells n w (all-mem (Word n) (listing n) (listing-words n) m), λ s. listing-complete n w (spells-word n w s));
  increasing = increasing n;
  position_of = λ p e. (word-spells n (word_at n p) (at-word n p e), position_at n p e);
  word_placed = λ w s. (position_in n w (spells-word n w s), at_position n w (spells-word n w s));
  one_each = λ s0 s1 root A e. (let q = placed-once n s0 s1 root A e l in (position n (word_of s0 s1 root), q.0, q.1, q.2));
}
