-- `ways_b` looks up the block of B where there is a label free.
use mathlib.Core.Path.{sym, ◌∙◌}
use native.Mathlib.Omega.{arith}
use Rattle.listing_places_ways.proofs.EventBlocks.{ways_b-few, ways_b-more}
use Rattle.listing_places_ways.proofs.blocks.ways_b.Goals as goal

pub returns-then-f-lt1 : goal.returns-then-f-lt1
returns-then-f-lt1 c = sym (ways_b-few _ _ c.if-f-lt1.true)

pub returns : goal.returns
returns c = c.ways.ensures.inside (omega arith) ∙ sym (ways_b-more _ _ c.if-f-lt1.false)
