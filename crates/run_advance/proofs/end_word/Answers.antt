-- `end_word` meets its contract. Invariant: of the word that is to be drawn, the items before i are, and the rest is the least ending from the
-- counts there. Each item lowers the sum of the pending and the free labels, the measure.
use Rattle.std.proofs.Common.{arith}
use Rattle.run_advance.proofs.Laws.{part-few, part_low, end-done, end-next, end-least, end-less, next_place, next-ends}
use Rattle.run_advance.proofs.end_word.Goals as goal

pub least_event-e-requires : goal.least_event-e-requires
least_event-e-requires c = part_low (c.loop-m.invariant _ c.requires.1 c.requires.2).0

pub draw_item-m-requires : goal.draw_item-m-requires
draw_item-m-requires c =
    let I = c.loop-m.invariant _ c.requires.1 c.requires.2 in
    (_, _, end-next I.0 I.1 c.loop-m-test.true _ c.least_event-e.ensures)

pub loop-m-smaller : goal.loop-m-smaller
loop-m-smaller c =
    let I = c.loop-m.invariant _ c.requires.1 c.requires.2 in
    let N = end-next I.0 I.1 c.loop-m-test.true _ c.least_event-e.ensures in
    end-less I.0 I.1 c.loop-m-test.true _ c.least_event-e.ensures (c.draw_item-m.ensures _ _ N)

pub loop-m-preserved : goal.loop-m-preserved
loop-m-preserved c =
    λ v P E.
    let I = c.loop-m.invariant v P E in
    let N = end-next I.0 I.1 c.loop-m-test.true _ c.least_event-e.ensures in
    let R = c.draw_item-m.ensures _ v N in
    (R, next-ends N (end-least I.0 I.1 c.loop-m-test.true _ c.least_event-e.ensures) R)

pub returns : goal.returns
returns c = λ v P E. let I = c.loop-m.invariant v P E in end-done I.0 I.1 c.loop-m-test.false

pub overflow_sub-n : goal.overflow_sub-n
overflow_sub-n c = part-few (c.loop-m.invariant _ c.requires.1 c.requires.2).0

pub overflow_add-i : goal.overflow_add-i
overflow_add-i c =
    let I = c.loop-m.invariant _ c.requires.1 c.requires.2 in
    let i = next_place (end-next I.0 I.1 c.loop-m-test.true _ c.least_event-e.ensures) in
    record { fits = omega arith }
