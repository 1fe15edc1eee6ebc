-- The single list of all sizes up to a bound, and its visits, from the laws of crates upto and upto_laws.
use mathlib.Core.Path.{◌≡◌, sym, ap, ◌∙◌}
use mathlib.Core.List.{List}
use Prim.Native.Nat.{ℕ, ◌≤◌}
use native.Mathlib.Omega.{arith}
use lib.ListN.{length, take}
use Rattle.lists.specs.Ranges.{OneTo}
use Rattle.diagrams.specs.Check.{Accepts}
use Rattle.diagrams.specs.Isomorphism.{RootedIsomorphic}
use Rattle.words.proofs.Shape.{word-spells, spells-word}
use Rattle.labelling.specs.Labelling.{word_of, characteristic}
use Rattle.labelling.proofs.OfLists.{characteristic-isomorphic, word-spelled, word-of-size, isomorphic-words, spelled-word_of, spelled-accepted}
use Rattle.listing.specs.Diagrams.{diagram_of}
use Rattle.listing.proofs.InPlace.{diagram-spelled}
use Rattle.listing.proofs.Spelled.{spelled-of}
use Rattle.upto.specs.Upto.{in_word_order, upto, total, word_upto}
use Rattle.upto.specs.Visits.{beginnings_of}
use Rattle.upto.proofs.Order.{sorted-in_order}
use Rattle.upto.proofs.Upto.{upto-sorted, upto-exactly, upto-of-size, at-upto, upto-at, upto-once}
use Rattle.upto.proofs.Visits.{visits-listed, visits_are}
use Rattle.upto_laws.proofs.Laws.{visits-most}
use Rattle.theorems.specs.Listing.{ExactlyOne}
use Rattle.theorems.specs.SingleList.{SingleListHolds, VisitsHold}

-- the diagram at a place has the word of that place, and check accepts it if its size is at most 1,024
pub upto-word_of : (n p : ℕ) → OneTo (total n) p → word_of (diagram_of (word_upto n p)).black (diagram_of (word_upto n p)).white 1 ≡ word_upto n p
upto-word_of n p o = let l = at-upto n p o in spelled-word_of (word_upto n p) (diagram_of (word_upto n p)) (spelled-of l.0 (word_upto n p) l.2)

pub upto-accepted : (n p : ℕ) → OneTo (total n) p → length (diagram_of (word_upto n p)).black ≤ 1024 → Accepts (diagram_of (word_upto n p)).black (diagram_of (word_upto n p)).white 1
upto-accepted n p o h = let l = at-upto n p o in spelled-accepted (word_upto n p) (diagram_of (word_upto n p)) (spelled-of l.0 (word_upto n p) l.2) h

-- an accepted diagram that is isomorphic to the one at a place has the word of that place; its size is one that check accepts, so that of the place is too
pub word-at-place : (n : ℕ) (s0 s1 : List ℕ) (root : ℕ) → Accepts s0 s1 root → (q : ℕ) → OneTo (total n) q
    → RootedIsomorphic s0 s1 root (diagram_of (word_upto n q)).black (diagram_of (word_upto n q)).white 1 → word_upto n q ≡ word_of s0 s1 root
word-at-place n s0 s1 root A q o i =
    let e = i.sizes in
    let h = A.size in
    sym (upto-word_of n q o) ∙ sym (isomorphic-words s0 s1 root A (diagram_of (word_upto n q)).black (diagram_of (word_upto n q)).white 1 (upto-accepted n q o (omega arith)) i)

-- every rooted diagram of a size 1..n is at exactly one place, that of its word
pub upto-placed : (n : ℕ) (s0 s1 : List ℕ) (root : ℕ) → Accepts s0 s1 root → length s0 ≤ n
    → ExactlyOne (total n) (λ p. RootedIsomorphic s0 s1 root (diagram_of (word_upto n p)).black (diagram_of (word_upto n p)).white 1)
upto-placed n s0 s1 root A l = go (upto-at n (word_of s0 s1 root) (length s0, (A.size.0, l), spells-word (length s0) (word_of s0 s1 root) (word-of-size s0 s1 root A)))
  where
    go : (p : ℕ) × OneTo (total n) p × (word_upto n p ≡ word_of s0 s1 root) → ExactlyOne (total n) (λ p. RootedIsomorphic s0 s1 root (diagram_of (word_upto n p)).black (diagram_of (word_upto n p)).white 1)
    go (p, o, e) =
        let d : diagram_of (word_upto n p) ≡ characteristic s0 s1 root = ap diagram_of e ∙ diagram-spelled (word_of s0 s1 root) (characteristic s0 s1 root) (word-spelled s0 s1 root A) in
        (p, o, rw d (characteristic-isomorphic s0 s1 root A), λ q f i. upto-once n q p f o (word-at-place n s0 s1 root A q f i ∙ sym e))

pub single-list-holds : SingleListHolds
single-list-holds n = record {
  in_order = upto-sorted n;
  exactly = λ w. (
    λ i. (let l = (upto-exactly n w).0 i in (l.0, l.1, word-spells l.0 w l.2)),
    λ s. (upto-exactly n w).1 (s.0, s.1, spells-word s.0 w s.2),
  );
  by_size = upto-of-size n;
  one_each = upto-placed n;
}

pub visits-hold : VisitsHold
visits-hold n = record {
  listed = λ p. (in_word_order (beginnings_of (take p (upto n))), record { in_order = sorted-in_order (beginnings_of (take p (upto n))); exactly = visits-listed n p });
  number = λ p us B. visits_are n p us B.in_order B.exactly;
  most = visits-most n;
}
