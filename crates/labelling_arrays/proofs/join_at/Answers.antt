-- `join_at` meets its contract: the depth is the edge's place in the stack, and at most 1,024 edges are pending, so the item fits.
use native.Mathlib.Omega.{arith}
use Rattle.lists.proofs.Lists.{find-lt}
use Rattle.pending_ring.proofs.Laws.{ring-few}
use Rattle.labelling_arrays.proofs.join_at.Goals as goal

pub overflow_add-result : goal.overflow_add-result
overflow_add-result c =
    let (st, r, h, e) = c.requires in
    let i = find-lt c.args.p st h in
    let j = ring-few _ _ st r in
    omega arith

pub overflow_cast-result : goal.overflow_cast-result
overflow_cast-result c =
    let (st, r, h, e) = c.requires in
    let i = find-lt c.args.p st h in
    let j = ring-few _ _ st r in
    omega arith
