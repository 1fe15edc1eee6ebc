-- What the definition of read word answers: words at the edge of Jd, and the refusals in their order. (25, document 01's example (j), stands in
-- its table: crate theorems, Table.)
use mathlib.Core.Path.{◌≡◌, refl}
use mathlib.Core.List.{[], ◌∷◌}
use Rattle.words_reading.specs.Read.{refused, built, items, read}

-- J0 joins the popped edge 3 to the top, J1 to the one below it
pub TJ0W : read (1 ∷ 3 ∷ 0 ∷ []) ≡ built record { black = 2 ∷ 3 ∷ 1 ∷ []; white = 1 ∷ 3 ∷ 2 ∷ [] }
unfolding read items
TJ0W = refl

pub TJ1W : read (1 ∷ 4 ∷ 0 ∷ []) ≡ built record { black = 2 ∷ 3 ∷ 1 ∷ []; white = 3 ∷ 2 ∷ 1 ∷ [] }
unfolding read items
TJ1W = refl

-- two edges are left after the pop: d is not below 2
pub TJ2 : read (1 ∷ 5 ∷ []) ≡ refused 23
unfolding read items
TJ2 = refl

-- an item after the stack has emptied comes before every other condition on that item
pub UWJ0 : read (0 ∷ 0 ∷ 3 ∷ []) ≡ refused 26
unfolding read items
UWJ0 = refl

-- the empty word, and a first item that is neither U nor T
pub empty : read [] ≡ refused 21
unfolding read
empty = refl

pub two : read (2 ∷ []) ≡ refused 22
unfolding read
two = refl
