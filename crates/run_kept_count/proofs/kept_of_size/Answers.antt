-- All diagrams of the size, a block at a time.
use native.Mathlib.Omega.{arith}
use Rattle.run_kept_count.proofs.Counting.{counting-none, more_left, counting-stands, counting-block, counting_more, counting-falls, counting-small, counting-all}
use Rattle.run_kept_count.proofs.kept_of_size.Goals as goal

pub loop-given-init : goal.loop-given-init
loop-given-init c = rw c.empty-run.ensures (counting-none _ c.requires)

pub count_block-block-requires : goal.count_block-block-requires
count_block-block-requires c = (_, counting-stands c.requires c.loop-given.invariant (more_left _ _ _ c.count_of-total.ensures c.loop-given-test.true))

pub overflow_add-given : goal.overflow_add-given
overflow_add-given c =
    let P = c.requires in
    let C = c.loop-given.invariant in
    let h = more_left _ _ _ c.count_of-total.ensures c.loop-given-test.true in
    let K = counting-block P C h c.count_block-block.ensures in
    omega (arith, counting-small P (counting_more P C h K))

pub overflow_add-kept : goal.overflow_add-kept
overflow_add-kept c =
    let P = c.requires in
    let C = c.loop-given.invariant in
    let h = more_left _ _ _ c.count_of-total.ensures c.loop-given-test.true in
    let K = counting-block P C h c.count_block-block.ensures in
    omega (arith, counting-small P C, counting-small P (counting_more P C h K))

pub loop-given-smaller : goal.loop-given-smaller
loop-given-smaller c =
    let P = c.requires in
    let C = c.loop-given.invariant in
    let h = more_left _ _ _ c.count_of-total.ensures c.loop-given-test.true in
    let K = counting-block P C h c.count_block-block.ensures in
    omega (arith, counting-falls P C h K, h)

pub loop-given-preserved : goal.loop-given-preserved
loop-given-preserved c =
    let P = c.requires in
    let C = c.loop-given.invariant in
    let h = more_left _ _ _ c.count_of-total.ensures c.loop-given-test.true in
    let K = counting-block P C h c.count_block-block.ensures in
    counting_more P C h K

pub returns : goal.returns
returns c = counting-all c.requires c.loop-given.invariant (omega (arith, c.count_of-total.ensures))
