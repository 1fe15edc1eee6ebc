-- The diagram at a position: of the size, in its characteristic labelling, with the word at that position; and each rooted diagram of
-- the size is isomorphic, with roots, to the diagram at exactly one position, that of its word.
use mathlib.Core.Path.{◌≡◌, sym, ap, ◌∙◌}
use mathlib.Core.Option.{some}
use mathlib.Core.List.{List}
use Prim.Native.Nat.{ℕ, ◌≤◌}
use lib.ListN.{length}
use Rattle.lists.specs.Ranges.{OneTo}
use Rattle.diagrams.specs.Check.{Accepts}
use Rattle.diagrams.specs.Isomorphism.{RootedIsomorphic}
use Rattle.words.specs.Shape.{Word}
use Rattle.words.specs.Word.{Pair, spell, Spells}
use Rattle.words.proofs.Shape.{word-spells, spells-word}
use Rattle.labelling.specs.Labelling.{word_of, characteristic}
use Rattle.labelling.proofs.OfLists.{characteristic-isomorphic, word-spelled, word-of-size, isomorphic-words, spelled-word_of, spelled-accepted, spelled-characteristic}
use Rattle.listing.specs.Diagrams.{diagram_of, diagram_at}
use Rattle.listing.specs.Listing.{count}
use Rattle.listing.specs.Position.{word_at, position}
use Rattle.listing.proofs.Positions.{at-word, at_once, position_in, at_position}

pub diagram-spelled : (w : List ℕ) (D : Pair) → spell w ≡ some D → diagram_of w ≡ D
unfolding diagram_of
diagram-spelled w D e = rw e

module _ (n p : ℕ) (e : OneTo (count n) p) where
  pub at-spelled : Spells n (word_at n p)
  at-spelled = word-spells n (word_at n p) (at-word n p e)

  pub at-spells : spell (word_at n p) ≡ some (diagram_at n p)
  unfolding diagram_at
  at-spells = at-spelled.spelt ∙ ap some (sym (diagram-spelled (word_at n p) at-spelled.pair at-spelled.spelt))

  pub at_size : length (diagram_at n p).black ≡ n
  unfolding diagram_at
  at_size = ap (λ (D : Pair). length D.black) (diagram-spelled (word_at n p) at-spelled.pair at-spelled.spelt) ∙ at-spelled.sized

  pub at-word_of : word_of (diagram_at n p).black (diagram_at n p).white 1 ≡ word_at n p
  at-word_of = spelled-word_of (word_at n p) (diagram_at n p) at-spells

  pub at-characteristic : characteristic (diagram_at n p).black (diagram_at n p).white 1 ≡ diagram_at n p
  at-characteristic = spelled-characteristic (word_at n p) (diagram_at n p) at-spells

  pub at-accepted : n ≤ 1024 → Accepts (diagram_at n p).black (diagram_at n p).white 1
  at-accepted l = spelled-accepted (word_at n p) (diagram_at n p) at-spells (rw at_size l)

-- the position of a rooted diagram of the size
module _ (s0 s1 : List ℕ) (root : ℕ) (A : Accepts s0 s1 root) where
  abbrev n : ℕ
  n = length s0

  abbrev w : List ℕ
  w = word_of s0 s1 root

  its_word : Word n w
  its_word = spells-word n w (word-of-size s0 s1 root A)

  pub position-counted : OneTo (count n) (position n w)
  position-counted = position_in n w its_word

  pub position-diagram : diagram_at n (position n w) ≡ characteristic s0 s1 root
  unfolding diagram_at
  position-diagram = ap diagram_of (at_position n w its_word) ∙ diagram-spelled w (characteristic s0 s1 root) (word-spelled s0 s1 root A)

  pub position-isomorphic : RootedIsomorphic s0 s1 root (diagram_at n (position n w)).black (diagram_at n (position n w)).white 1
  position-isomorphic = rw position-diagram (characteristic-isomorphic s0 s1 root A)

  -- and no other diagram of the listing is isomorphic to it
  pub position-only : (q : ℕ) → OneTo (count n) q → n ≤ 1024 → RootedIsomorphic s0 s1 root (diagram_at n q).black (diagram_at n q).white 1 → q ≡ position n w
  position-only q e l i =
      at_once n q (position n w) e position-counted
      (sym (at-word_of n q e) ∙ sym (isomorphic-words s0 s1 root A (diagram_at n q).black (diagram_at n q).white 1 (at-accepted n q e l) i) ∙ sym (at_position n w its_word))
