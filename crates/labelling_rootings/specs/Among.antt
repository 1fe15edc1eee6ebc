-- A word w among the words of a diagram's rootings: what kept, compare and symmetries ask. The word need not be a rooting's.
--
--   NoneBefore s0 s1 w     no rooting's word comes before w
--   SomeRooting s0 s1 w    some rooting has the word w
--   rootings_with s0 s1 w   how many rootings have the word w
--   UComesFirst s0 root    the root's word begins with T and some rooting's with U: s0 moves the root and fixes some edge
use Rattle.std.specs.Prelude.{◌≡◌, ◌≢◌, List, ℕ, length}
use Rattle.lists.specs.Lists.{at}
use Rattle.lists.specs.Ranges.{OneTo, card}
use Rattle.words.specs.Order.{Before, same}
use Rattle.labelling.specs.Labelling.{word_of}

unfoldable pub NoneBefore : List ℕ → List ℕ → List ℕ → Type 0
NoneBefore s0 s1 w = (x : ℕ) → OneTo (length s0) x → ¬ Before (word_of s0 s1 x) w

unfoldable pub SomeRooting : List ℕ → List ℕ → List ℕ → Type 0
SomeRooting s0 s1 w = (x : ℕ) × OneTo (length s0) x × (word_of s0 s1 x ≡ w)

unfoldable pub rootings_with : List ℕ → List ℕ → List ℕ → ℕ
rootings_with s0 s1 w = card (length s0) (λ x. same (word_of s0 s1 x) w)

unfoldable pub UComesFirst : List ℕ → ℕ → Type 0
UComesFirst s0 root = (at s0 root ≢ root) × ((x : ℕ) × OneTo (length s0) x × (at s0 x ≡ x))
