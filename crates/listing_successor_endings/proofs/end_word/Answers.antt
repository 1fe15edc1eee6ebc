-- `end_word` meets its contract. Invariant: the items written so far, with the least ending from the state reached, are what is to be
-- written. Each item lowers the sum of the height and the free labels, the measure.
use Rattle.listing_successor_endings.proofs.Padding.{wrote-all, ends-room, ends-less, ends_more, wrote-more}
use Rattle.listing_successor_endings.proofs.end_word.Goals as goal

pub bounds-items-i : goal.bounds-items-i
bounds-items-i c = ends-room _ _ _ c.loop-h-test.true c.loop-h.invariant.0

pub loop-h-smaller : goal.loop-h-smaller
loop-h-smaller c = ends-less _ _ _ c.loop-h-test.true c.loop-h.invariant.0 _ c.least_event-e.ensures _ c.state_after_item-l.ensures

pub loop-h-preserved : goal.loop-h-preserved
loop-h-preserved c = (
  ends_more _ _ _ c.loop-h-test.true c.loop-h.invariant.0 _ c.least_event-e.ensures _ c.state_after_item-l.ensures,
  λ p e l. wrote-more _ _ _ c.loop-h-test.true c.loop-h.invariant.0 _ c.least_event-e.ensures _ c.state_after_item-l.ensures p _ _ _ (c.loop-h.invariant.1 p e l),
)

pub returns : goal.returns
returns c = λ p e l. wrote-all p _ _ _ _ _ _ c.loop-h-test.false (c.loop-h.invariant.1 p e l)
