-- `rank` adds up the blocks before each item. The loop's invariant, `Ranked`: what is added so far and the rank of the items left are the rank.
use Prim.Native.Nat.{◌+◌}
use native.Mathlib.Omega.{arith}
use lib.ListN.{drop, drop_of_length-le}
use Rattle.words_spelling_events.proofs.Lists.{next-item}
use Rattle.listing_places_ways.proofs.Passing.{rank-small, ranked-more, ranked-end}
use Rattle.listing_places_ways.proofs.ranking.rank.Goals as goal

pub pass-block-requires-clause-by_index : goal.pass-block-requires-clause-by_index
pass-block-requires-clause-by_index c =
    let R = rw (next-item c.args.items.now c.loop-item.item-index (omega arith)) at c.loop-item.invariant in
    (drop (c.loop-item.item-index + 1) c.args.items.now, R.fits)

pub overflow_add-place : goal.overflow_add-place
overflow_add-place c =
    let R = rw (next-item c.args.items.now c.loop-item.item-index (omega arith)) at c.loop-item.invariant in
    omega (arith, (ranked-more _ _ _ _ _ _ _ _ _ R (c.pass-block.ensures _ R.fits)).sum, rank-small c.args.height c.args.free c.args.items.now c.requires.1 c.requires.0)

pub returns : goal.returns
returns c = ranked-end _ _ _ _ (rw (drop_of_length-le c.args.items.now c.loop-item-test.false) at c.loop-item.invariant)
