-- Walk: as long as the start is not reached again, fewer edges are marked than the cycle has, and so fewer than there are.
use native.Mathlib.Omega.{arith}
use Rattle.invariants_cycles.proofs.Cycles.{around-perm}
use Rattle.invariants_counting.proofs.Walks.{walk_start, walk-in, walk-few, walk-next, walk_end}
use Rattle.invariants_counting.proofs.walk.Goals as goal

pub loop-x-init : goal.loop-x-init
loop-x-init c = walk_start (around-perm c.requires.mapped.maps) c.requires.mapped.size.1 _ c.requires.one_to _ c.requires.seen_len

pub overflow_sub-seen : goal.overflow_sub-seen
overflow_sub-seen c = (walk-in (around-perm c.requires.mapped.maps) c.requires.mapped.size.1 _ c.requires.one_to c.loop-x.invariant).0

pub next_edge-x-requires-clause-one_to : goal.next_edge-x-requires-clause-one_to
next_edge-x-requires-clause-one_to c = walk-in (around-perm c.requires.mapped.maps) c.requires.mapped.size.1 _ c.requires.one_to c.loop-x.invariant

pub overflow_add-k : goal.overflow_add-k
overflow_add-k c =
    let size = c.requires.mapped.size.1 in
    let few = walk-few (around-perm c.requires.mapped.maps) size _ c.requires.one_to c.loop-x.invariant in
    omega arith

pub returns-then-x-i-clause-value : goal.returns-then-x-i-clause-value
returns-then-x-i-clause-value c =
    (walk_end (around-perm c.requires.mapped.maps) c.requires.mapped.size.1 _ c.requires.one_to c.loop-x.invariant _ c.next_edge-x.ensures c.if-x-i.true).0

pub returns-then-x-i-clause-cycle_marked : goal.returns-then-x-i-clause-cycle_marked
returns-then-x-i-clause-cycle_marked c =
    (walk_end (around-perm c.requires.mapped.maps) c.requires.mapped.size.1 _ c.requires.one_to c.loop-x.invariant _ c.next_edge-x.ensures c.if-x-i.true).1

pub bounds-seen-x : goal.bounds-seen-x
bounds-seen-x c =
    let size = c.requires.mapped.size.1 in
    let here = walk-in (around-perm c.requires.mapped.maps) size _ c.requires.one_to c.loop-x.invariant in
    omega arith

pub loop-x-smaller : goal.loop-x-smaller
loop-x-smaller c =
    let size = c.requires.mapped.size.1 in
    let few = walk-few (around-perm c.requires.mapped.maps) size _ c.requires.one_to c.loop-x.invariant in
    omega arith

pub loop-x-preserved : goal.loop-x-preserved
loop-x-preserved c =
    walk-next (around-perm c.requires.mapped.maps) c.requires.mapped.size.1 _ c.requires.one_to c.loop-x.invariant _ c.next_edge-x.ensures c.if-x-i.false
