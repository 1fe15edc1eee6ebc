-- Depth: a walk down to the place of l. Each label passed is another one, so the walk ends there and not before.
use native.Mathlib.Omega.{arith}
use Rattle.lists.proofs.Lists.{find-lt}
use Rattle.pending_ring.proofs.Laws.{walk-few, walk-next, walk-on, walk-found}
use Rattle.pending_ring.proofs.depth.Goals as goal

pub overflow_add-d : goal.overflow_add-d
overflow_add-d c =
    let (pv, s, r, h) = c.requires in
    omega (arith, walk-few _ pv s r _ (find-lt c.args.l s h) _ _ (c.loop-index.invariant pv s r h))

pub loop-index-smaller : goal.loop-index-smaller
loop-index-smaller c =
    let (pv, s, r, h) = c.requires in
    omega (arith, walk-few _ pv s r _ (find-lt c.args.l s h) _ _ (c.loop-index.invariant pv s r h))

pub loop-index-preserved : goal.loop-index-preserved
loop-index-preserved c =
    λ pv s r h.
    let w = c.loop-index.invariant pv s r h in
    rw c.to_index-index.ensures (walk-next _ pv s r _ (find-lt _ s h) _ _ w (walk-on _ pv s r _ h _ _ w c.loop-index-test.true))

pub returns : goal.returns
returns c = λ pv s r h. walk-found _ pv s r _ h _ _ (c.loop-index.invariant pv s r h) c.loop-index-test.false
