-- Branch visits (request U1): how many branches of the tree of words have been entered. A branch is a beginning that is non-empty and shorter than
-- the word that it begins; it counts once, however many words begin with it. (In the field's terms: the inner nodes, other than the root, of the
-- trie of the words listed so far.)
--
--   Begins u w         u is a non-empty proper beginning of w
--   beginnings w       the non-empty proper beginnings of w, shortest first
--   beginnings_of ws    those of the words ws, one after another
--   visits n p         how many different lists are a non-empty proper beginning of one of the first p words of the single list
use Rattle.std.specs.Prelude.{◌≡◌, List, [], ◌∷◌, ◌++◌, map, ℕ, ◌-◌, ◌≤◌, length, take}
use Rattle.lists.specs.Ranges.{stretch}
use Rattle.upto.specs.Upto.{in_word_order, upto}

abbrev pub Begins : List ℕ → List ℕ → Type 0
Begins u w = (1 ≤ length u) × ((t : List ℕ) × (1 ≤ length t) × (w ≡ u ++ t))

abbrev pub beginnings : List ℕ → List (List ℕ)
beginnings w = map (λ (k : ℕ). take k w) (stretch 1 (length w - 1))

abbrev pub beginnings_of : List (List ℕ) → List (List ℕ)
beginnings_of [] = []
beginnings_of (w ∷ ws) = beginnings w ++ beginnings_of ws

unfoldable pub visits : ℕ → ℕ → ℕ
visits n p = length (in_word_order (beginnings_of (take p (upto n))))
