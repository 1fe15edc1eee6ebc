-- Depth between: two walks in step. A label that neither has come to stands further in from both ends, so both can go on.
use native.Mathlib.Omega.{arith}
use Rattle.pending_ring.proofs.Walks.{up_small, walks-few, walks_next, top-found, bottom-found}
use Rattle.pending_ring.proofs.depth_between.Goals as goal

pub offset_bounds-prev-up : goal.offset_bounds-prev-up
offset_bounds-prev-up c = let (s, r, h, e) = c.requires in omega (arith, up_small _ _ s r _ h _ _ _ (c.loop-down.invariant s r h))

pub bounds-prev-up : goal.bounds-prev-up
bounds-prev-up c = let (s, r, h, e) = c.requires in up_small _ _ s r _ h _ _ _ (c.loop-down.invariant s r h)

pub overflow_sub-result-then-prev-up : goal.overflow_sub-result-then-prev-up
overflow_sub-result-then-prev-up c =
    let (s, r, h, e) = c.requires in
    omega (arith, bottom-found _ _ s r _ h _ _ _ (c.loop-down.invariant s r h) c.if-prev-up.true)

pub returns-then-prev-up : goal.returns-then-prev-up
returns-then-prev-up c = λ s r h e. omega (arith, bottom-found _ _ s r _ h _ _ _ (c.loop-down.invariant s r h) c.if-prev-up.true)

pub offset_bounds-prev-up-in-loop-down : goal.offset_bounds-prev-up-in-loop-down
offset_bounds-prev-up-in-loop-down c = let (s, r, h, e) = c.requires in omega (arith, up_small _ _ s r _ h _ _ _ (c.loop-down.invariant s r h))

pub bounds-prev-up-in-loop-down : goal.bounds-prev-up-in-loop-down
bounds-prev-up-in-loop-down c = let (s, r, h, e) = c.requires in up_small _ _ s r _ h _ _ _ (c.loop-down.invariant s r h)

pub overflow_add-i : goal.overflow_add-i
overflow_add-i c = let (s, r, h, e) = c.requires in omega (arith, walks-few _ _ s r _ h _ _ _ (c.loop-down.invariant s r h))

pub loop-down-smaller : goal.loop-down-smaller
loop-down-smaller c = let (s, r, h, e) = c.requires in omega (arith, walks-few _ _ s r _ h _ _ _ (c.loop-down.invariant s r h))

pub loop-down-preserved : goal.loop-down-preserved
loop-down-preserved c =
    λ s r h.
    let w = c.loop-down.invariant s r h in
    rw (c.to_index-down.ensures, c.to_index-up.ensures) (walks_next _ _ s r _ h _ _ _ w c.loop-down-test.true c.if-prev-up.false)

pub returns : goal.returns
returns c = λ s r h e. top-found _ _ s r _ h _ _ _ (c.loop-down.invariant s r h) c.loop-down-test.false
