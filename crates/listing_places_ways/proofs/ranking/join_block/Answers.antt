-- `join_block` adds up the blocks before Jd; the sum is below a number of ways in the table, so it fits.
use native.Mathlib.Omega.{arith}
use Rattle.listing_places_ways.proofs.Passing.{passed-J, sum-J}
use Rattle.listing_places_ways.proofs.ranking.join_block.Goals as goal

pub overflow_add-before : goal.overflow_add-before
overflow_add-before c =
    let (w, a) = c.requires.by_index in
    omega (arith, c.ways.ensures.inside (omega arith), c.ways_f.ensures, sum-J _ _ _ w c.requires.free_bound a)

pub overflow_add-before-2 : goal.overflow_add-before-2
overflow_add-before-2 c =
    let (w, a) = c.requires.by_index in
    omega (arith, c.ways.ensures.inside (omega arith), c.ways_f.ensures, c.ways_b.ensures, sum-J _ _ _ w c.requires.free_bound a)

pub overflow_mul-result : goal.overflow_mul-result
overflow_mul-result c =
    let (w, a) = c.requires.by_index in
    rw (c.ways-block.ensures.inside (omega arith)) (omega (arith, sum-J _ _ _ w c.requires.free_bound a))

pub overflow_add-result : goal.overflow_add-result
overflow_add-result c =
    let (w, a) = c.requires.by_index in
    rw (c.ways-block.ensures.inside (omega arith)) (omega (arith, c.ways.ensures.inside (omega arith), c.ways_f.ensures, c.ways_b.ensures, sum-J _ _ _ w c.requires.free_bound a))

pub returns : goal.returns
returns c = λ w a. rw (c.ways-block.ensures.inside (omega arith), c.ways.ensures.inside (omega arith), c.ways_f.ensures, c.ways_b.ensures) (passed-J _ _ _ w c.requires.free_bound a)
