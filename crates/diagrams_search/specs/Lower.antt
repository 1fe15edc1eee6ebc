-- A quick sign that a diagram is connected: where every edge but 1 has a neighbour with a smaller number, each leads down to edge 1,
-- and no search is needed. Every characteristic labelling is so, since it numbers an edge only next to one that has its number.
--
--   LowerNeighbour s0 s1 x   edge x has a neighbour, round its black or its white vertex, with a smaller number
--   LowerNeighbours s0 s1    every edge but 1 has one
use Rattle.std.specs.Prelude.{◌⊎◌, List, ℕ, ◌<◌, length}
use Rattle.lists.specs.Lists.{at}
use Rattle.lists.specs.Ranges.{OneTo}

abbrev pub LowerNeighbour : List ℕ → List ℕ → ℕ → Type 0
LowerNeighbour s0 s1 x = (at s0 x < x) ⊎ ((at s0 (at s0 x) < x) ⊎ (at s1 x < x))

abbrev pub LowerNeighbours : List ℕ → List ℕ → Type 0
LowerNeighbours s0 s1 = (x : ℕ) → OneTo (length s0) x → 1 < x → LowerNeighbour s0 s1 x
