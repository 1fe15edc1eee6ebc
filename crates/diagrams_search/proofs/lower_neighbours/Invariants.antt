-- `lower_neighbours` meets its contract: the loop has passed only edges that have a lower neighbour, and edge 1, of which none is asked.
use Prim.Native.Nat.{◌<◌}
use Rattle.diagrams_entries.proofs.Answers.{Passed}
use Rattle.diagrams_search.specs.Lower.{LowerNeighbour}
use Rattle.diagrams_search.proofs.lower_neighbours.Given as goal

abbrev pub invariant-loop-x : goal.invariant-loop-x
invariant-loop-x l = (1 < l.x) × Passed (λ y. 1 < y → LowerNeighbour l.s0 l.s1 y) l.n l.x
