-- The listing of a size (document 01, "Count", "Position"), part of demand 2: counts and positions equal their definitions.
--
--   ExactlyOne m P         exactly one of the numbers 1..m has the property P
--   listing n, Sorted      crate listing, Listing;  count n is the listing's length
--   Before u v             u comes before v in dictionary order (crate words, Order)
--   Spells n w             the word w spells a diagram of n edges (crate words, Word)
--   word_at n p, position   crate listing, Position;  diagram_at n p, crate listing, Diagrams
--   RootedIsomorphic       isomorphic with roots (crate diagrams, Isomorphism)
use Rattle.std.specs.Prelude.{◌≡◌, ◌↔◌, ℕ, ◌≤◌, ◌<◌, length}
use mathlib.Core.List.{List, Memᴰ}
use Rattle.lists.specs.Ranges.{OneTo}
use Rattle.diagrams.specs.Check.{Accepts}
use Rattle.diagrams.specs.Isomorphism.{RootedIsomorphic}
use Rattle.words.specs.Order.{Before}
use Rattle.words.specs.Word.{Spells}
use Rattle.listing.specs.Listing.{listing, count, Sorted}
use Rattle.listing.specs.Position.{word_at, position}
use Rattle.listing.specs.Diagrams.{diagram_at}

abbrev pub ExactlyOne : ℕ → (ℕ → Type 0) → Type 0
ExactlyOne m P = (p : ℕ) × OneTo m p × P p × ((q : ℕ) → OneTo m q → P q → q ≡ p)

pub record Listing (n : ℕ) : Type 0 where
  -- it is in strictly increasing dictionary order
  pub in_order : Sorted (listing n)
  -- it holds every word of size n and nothing else
  pub exactly : (w : List ℕ) → Memᴰ w (listing n) ↔ Spells n w
  -- the word at a later position comes later in dictionary order
  pub increasing : (p q : ℕ) → OneTo (count n) p → OneTo (count n) q → p < q → Before (word_at n p) (word_at n q)
  -- position and word at a position are inverse: the position of the p-th word is p,
  pub position_of : (p : ℕ) → OneTo (count n) p → Spells n (word_at n p) × (position n (word_at n p) ≡ p)
  -- and the word at the position of a word of the size is that word
  pub word_placed : (w : List ℕ) → Spells n w → OneTo (count n) (position n w) × (word_at n (position n w) ≡ w)
  -- every rooted diagram of size n is isomorphic, with roots, to exactly one diagram of the listing
  pub one_each : (s0 s1 : List ℕ) (root : ℕ) → Accepts s0 s1 root → length s0 ≡ n
      → ExactlyOne (count n) (λ p. RootedIsomorphic s0 s1 root (diagram_at n p).black (diagram_at n p).white 1)

-- Sizes up to 1,024: what check accepts.
abbrev pub ListingHolds : Type 0
ListingHolds = (n : ℕ) → n ≤ 1024 → Listing n
