-- The words of a size, listed in dictionary order (document 01, "Count", "Position"): the exhaustive generation of the rooted maps of that
-- size in lexicographic order of their codes. Its length, the count, is their number.
--
--   prefix_each x ws       each of the words ws with the item x before it
--   prefix_range x j ws    the same for the j items x, x + 1, .., one after the other
--   completions m h f     the completions, the ways to go on, at a stack of height h with f labels free, by their first event: W, F, B, J0, J1, ..
--                         (m bounds their length; h + f is enough)
--   listing n             the words that spell a diagram of n edges
--   ways h f              how many ways there are to go on from there
--   count n               how many words spell a diagram of n edges
--   Sorted ws             each word of ws comes before all that follow it
-- That the listing holds exactly the words of size n, each once, in dictionary order, is a theorem: `Listing` in crate theorems.
use Rattle.std.specs.Prelude.{ℕ, zero, suc, ◌+◌, ◌*◌, List, [], ◌∷◌, ◌++◌, length}
use Rattle.lists.specs.Lists.{All}
use Rattle.words.specs.Order.{Before}
use Rattle.words.specs.Shape.{pre, less1, less3}

abbrev pub prefix_each : ℕ → List (List ℕ) → List (List ℕ)
prefix_each x [] = []
prefix_each x (w ∷ ws) = (x ∷ w) ∷ prefix_each x ws

abbrev pub prefix_range : ℕ → ℕ → List (List ℕ) → List (List ℕ)
prefix_range x zero ws = []
prefix_range x (suc j) ws = prefix_each x ws ++ prefix_range (suc x) j ws

-- an emptied stack: the word ends here, or not at all
abbrev pub at_empty_stack : ℕ → List (List ℕ)
at_empty_stack zero = [] ∷ []
at_empty_stack (suc f) = []

unfoldable pub completions : ℕ → ℕ → ℕ → List (List ℕ)
completions zero zero f = at_empty_stack f
completions zero (suc h) f = []
completions (suc m) zero f = at_empty_stack f
completions (suc m) (suc h) f =
    prefix_each 0 (completions m h f)
    ++ (prefix_each 1 (less3 f [] (λ g. completions m (suc (suc h)) g)) ++ (prefix_each 2 (less1 f [] (λ g. completions m h g)) ++ prefix_range 3 h (completions m (pre h) f)))

unfoldable pub listing : ℕ → List (List ℕ)
listing n = prefix_each 0 (less1 n [] (λ f. completions n 1 f)) ++ prefix_each 1 (less3 n [] (λ f. completions n 3 f))

unfoldable pub ways_in : ℕ → ℕ → ℕ → ℕ
ways_in zero zero f = length (at_empty_stack f)
ways_in zero (suc h) f = 0
ways_in (suc m) zero f = length (at_empty_stack f)
ways_in (suc m) (suc h) f = ways_in m h f + (less3 f 0 (λ g. ways_in m (suc (suc h)) g) + (less1 f 0 (λ g. ways_in m h g) + h * ways_in m (pre h) f))

unfoldable pub ways : ℕ → ℕ → ℕ
ways h f = ways_in (h + f) h f

unfoldable pub count : ℕ → ℕ
count n = length (listing n)

abbrev pub Sorted : List (List ℕ) → Type 0
Sorted [] = Unit {0}
Sorted (w ∷ ws) = All (Before w) ws × Sorted ws
