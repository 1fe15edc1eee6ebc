-- Onward: the white partner is an edge, so its black entry can be read.
use native.Mathlib.Omega.{arith}
use Rattle.lists.specs.Ranges.{OneTo}
use lib.ListN.{length}
use Rattle.invariants_counting.proofs.Walks.{partner-in}
use Rattle.invariants_counting.proofs.next_edge.Goals as goal

-- the white partner that the code has read is an edge
pub overflow_sub-partner : goal.overflow_sub-partner
overflow_sub-partner c =
    let partner : OneTo (length c.args.s0.now) c.to_index-partner.result = rw c.to_index-partner.ensures (partner-in c.requires.mapped _ c.requires.one_to) in
    partner.0

pub bounds-s0-partner : goal.bounds-s0-partner
bounds-s0-partner c =
    let partner : OneTo (length c.args.s0.now) c.to_index-partner.result = rw c.to_index-partner.ensures (partner-in c.requires.mapped _ c.requires.one_to) in
    omega arith
