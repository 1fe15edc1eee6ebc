-- The single list of all sizes up to a bound (request U1): the words that spell a diagram of some size 1..n, in dictionary order of words. It is
-- the union of the listings of the sizes 1 to n, sorted.
--
--   insert w ws      the sorted list ws with w put in at its place, unless it stands there already
--   in_word_order ws       the lists that stand in ws, in dictionary order and each once
--   listings n       the listings of the sizes 1 to n, one after another
--   upto n           the single list
--   total n          how many words it has
--   word_upto n p     its word at place p, from 1; [] where there is none
--   Listed n w       w spells a diagram of a size 1..n, said by the stack's height and the labels left (crate words, Shape)
--   size_of w         the size of the diagram that w spells
--   of_size m ws      the words of ws that spell a diagram of size m, in the order of ws
-- That it holds exactly these words, in strictly increasing order, is a theorem: `SingleList` in crate theorems.
use Rattle.std.specs.Prelude.{cond, List, [], ◌∷◌, ◌++◌, ℕ, zero, suc, eqb, length}
use Rattle.lists.specs.Ranges.{OneTo}
use Rattle.words.specs.Order.{precedes, same}
use Rattle.words.specs.Shape.{Word}
use Rattle.listing.specs.Listing.{listing}
use Rattle.listing.specs.Position.{nth}
use Rattle.listing.specs.Diagrams.{diagram_of}

abbrev pub insert : List ℕ → List (List ℕ) → List (List ℕ)
insert w [] = w ∷ []
insert w (v ∷ ws) = cond (precedes w v) (w ∷ v ∷ ws) (cond (same w v) (v ∷ ws) (v ∷ insert w ws))

abbrev pub in_word_order : List (List ℕ) → List (List ℕ)
in_word_order [] = []
in_word_order (w ∷ ws) = insert w (in_word_order ws)

abbrev pub listings : ℕ → List (List ℕ)
listings zero = []
listings (suc n) = listings n ++ listing (suc n)

unfoldable pub upto : ℕ → List (List ℕ)
upto n = in_word_order (listings n)

unfoldable pub total : ℕ → ℕ
total n = length (upto n)

unfoldable pub word_upto : ℕ → ℕ → List ℕ
word_upto n p = nth (upto n) p

abbrev pub Listed : ℕ → List ℕ → Type 0
Listed n w = (m : ℕ) × OneTo n m × Word m w

abbrev pub size_of : List ℕ → ℕ
size_of w = length (diagram_of w).black

abbrev pub of_size : ℕ → List (List ℕ) → List (List ℕ)
of_size m [] = []
of_size m (w ∷ ws) = cond (eqb (size_of w) m) (w ∷ of_size m ws) (of_size m ws)
