-- `reach` meets its contract: a mark is 0 or 1, so what is added to the count is 1 exactly for a new edge.
use mathlib.Core.Path.{refl}
use Rattle.diagrams_search.proofs.Searching.{mark-small, search-reach}
use Rattle.diagrams_search.proofs.reach.Goals as goal

pub overflow_sub-result : goal.overflow_sub-result
overflow_sub-result c = rw c.to_index-i.ensures (mark-small c.requires.search _ c.requires.one_to)

pub returns : goal.returns
returns c = rw c.to_index-i.ensures (search-reach c.requires.search _ c.requires.one_to _ refl)
