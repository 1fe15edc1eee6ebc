-- `connected` meets its contract: lower neighbours connect the diagram; otherwise, cleared marks and an empty list are where a search begins.
use Rattle.diagrams_entries.proofs.Answers.{answer-yes, yes-holds}
use Rattle.diagrams_search.proofs.Lowering.{lower-connected}
use Rattle.diagrams_search.proofs.Searching.{search-none}
use Rattle.diagrams.proofs.connected.Goals as goal

pub connected_in-requires-clause-search : goal.connected_in-requires-clause-search
connected_in-requires-clause-search c = search-none 64

pub connected_in-requires-2-clause-search : goal.connected_in-requires-2-clause-search
connected_in-requires-2-clause-search c = search-none 1024

pub returns-then-lower_neighbours : goal.returns-then-lower_neighbours
returns-then-lower_neighbours c = answer-yes (lower-connected c.requires (yes-holds c.lower_neighbours.ensures c.if-lower_neighbours.true))
