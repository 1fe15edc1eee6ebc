-- `rank` adds up the blocks before each item. The loop's invariant, `Ranked`: what is added so far and the rank of the items left are the rank.
use lib.ListN.{drop}
use Rattle.listing.specs.Ranking.{rank}
use Rattle.listing_places_ways.proofs.Passing.{Ranked}
use Rattle.listing_places_ways.proofs.ranking.rank.Given as goal

abbrev pub invariant-loop-item : goal.invariant-loop-item
invariant-loop-item l = Ranked (rank l.height l.free l.items) l.place l.h l.f (drop l.item-index l.items)
