-- `ways_f` looks up the block of F where there are three labels free.
use mathlib.Core.Path.{sym, ◌∙◌}
use native.Mathlib.Omega.{arith}
use Rattle.listing_places_ways.proofs.EventBlocks.{ways_f-few, ways_f-more}
use Rattle.listing_places_ways.proofs.blocks.ways_f.Goals as goal

pub returns-then-f-lt3 : goal.returns-then-f-lt3
returns-then-f-lt3 c = sym (ways_f-few _ _ c.if-f-lt3.true)

pub returns : goal.returns
returns c = c.ways.ensures.inside (omega arith) ∙ sym (ways_f-more _ _ c.if-f-lt3.false)
