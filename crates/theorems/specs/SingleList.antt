-- The single list of all sizes up to a bound, and the branch visits along it (request U1).
--
--   upto n, total n, word_upto n p    the list, how many words it has, and its word at place p (crate upto, Upto)
--   size_of w, of_size m ws            the size of the diagram of w, and the words of ws that have size m
--   visits n p                       the visits at place p (crate upto, Visits)
--   BranchesAt n p us                us holds, in dictionary order and each once, the non-empty proper beginnings of the first p words
--   SingleList n, VisitsAre n        the theorems
-- and from elsewhere: Spells (words, Word); Sorted, listing (listing); Accepts, RootedIsomorphic (diagrams); ExactlyOne (Listing).
use Rattle.std.specs.Prelude.{◌≡◌, ◌↔◌, ℕ, ◌+◌, ◌*◌, ◌≤◌, length, take}
use mathlib.Core.List.{List, Memᴰ}
use Rattle.lists.specs.Ranges.{OneTo}
use Rattle.diagrams.specs.Check.{Accepts}
use Rattle.diagrams.specs.Isomorphism.{RootedIsomorphic}
use Rattle.words.specs.Word.{Spells}
use Rattle.listing.specs.Listing.{listing, Sorted}
use Rattle.listing.specs.Diagrams.{diagram_of}
use Rattle.upto.specs.Upto.{upto, total, word_upto, of_size}
use Rattle.upto.specs.Visits.{Begins, visits}
use Rattle.theorems.specs.Listing.{ExactlyOne}

pub record SingleList (n : ℕ) : Type 0 where
  -- it is in strictly increasing dictionary order
  pub in_order : Sorted (upto n)
  -- it holds every word that spells a diagram of a size 1..n, and nothing else
  pub exactly : (w : List ℕ) → Memᴰ w (upto n) ↔ ((m : ℕ) × OneTo n m × Spells m w)
  -- the words of one size in it, in order, are the listing of that size
  pub by_size : (m : ℕ) → OneTo n m → of_size m (upto n) ≡ listing m
  -- every rooted diagram of a size 1..n is isomorphic, with roots, to exactly one diagram of it
  pub one_each : (s0 s1 : List ℕ) (root : ℕ) → Accepts s0 s1 root → length s0 ≤ n
      → ExactlyOne (total n) (λ p. RootedIsomorphic s0 s1 root (diagram_of (word_upto n p)).black (diagram_of (word_upto n p)).white 1)

abbrev pub SingleListHolds : Type 0
SingleListHolds = (n : ℕ) → SingleList n

pub record BranchesAt (n p : ℕ) (us : List (List ℕ)) : Type 0 where
  pub in_order : Sorted us
  pub exactly : (u : List ℕ) → Memᴰ u us ↔ ((w : List ℕ) × Memᴰ w (take p (upto n)) × Begins u w)

pub record VisitsAre (n : ℕ) : Type 0 where
  -- the visits at a place are the number of the branches: there is a list of them, and every such list is as long
  pub listed : (p : ℕ) → (us : List (List ℕ)) × BranchesAt n p us
  pub number : (p : ℕ) (us : List (List ℕ)) → BranchesAt n p us → length us ≡ visits n p
  -- at the last diagram they are at most 2 · diagrams - 1
  pub most : 1 ≤ n → visits n (total n) + 1 ≤ 2 * total n

abbrev pub VisitsHold : Type 0
VisitsHold = (n : ℕ) → VisitsAre n
