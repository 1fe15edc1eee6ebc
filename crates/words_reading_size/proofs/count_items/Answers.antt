-- The loop over the items: after those before the index the word's answer is what the rest gives from a state with the counts.
use Prim.Native.Nat.{◌+◌}
use lib.ListN.{drop}
use Rattle.words_reading_events.specs.State.{read_on}
use Rattle.words_reading.proofs.ReadingLaws.{rest-next}
use Rattle.words_reading_size.proofs.count_items.Goals as goal

pub loop-item-preserved : goal.loop-item-preserved
loop-item-preserved c =
    λ t o.
    let (st, p, e) = c.loop-item.invariant t o in
    let w = drop (c.loop-item.item-index + 1) c.args.rest.now in
    let (su, q, f) = c.in_ok-counts.ensures st p w in
    (su, q, rest-next _ _ t st (read_on w su) c.loop-item-test.true e f)
