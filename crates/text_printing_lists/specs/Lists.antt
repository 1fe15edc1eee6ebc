-- The pieces of a list of numbers.
--
--   entry_pieces l      the entries of l in decimal, with a comma before each
--   list_pieces l       `-` for the empty list; otherwise the entries in decimal, with a comma before each but the first
use Rattle.std.specs.Prelude.{List, [], ◌∷◌, ℕ}
use Rattle.words_decimals.specs.Decimals.{decimal}

unfoldable pub entry_pieces : List ℕ → List (List ℕ)
entry_pieces [] = []
entry_pieces (x ∷ l) = (44 ∷ []) ∷ decimal x ∷ entry_pieces l

unfoldable pub list_pieces : List ℕ → List (List ℕ)
list_pieces [] = (45 ∷ []) ∷ []
list_pieces (x ∷ l) = decimal x ∷ entry_pieces l
