-- Label at: a walk down to the place d, which is within the stack.
use native.Mathlib.Omega.{arith}
use mathlib.Core.Path.{◌∙◌, ap}
use Prim.Native.Nat.{ℕ}
use lib.ListN.{get_or}
use Rattle.pending_ring.proofs.Laws.{walk-label, walk-next}
use Rattle.pending_ring.proofs.label_at.Goals as goal

pub loop-preserved : goal.loop-preserved
loop-preserved c = (omega arith, λ pv s r h. rw c.to_index-index.ensures (walk-next _ pv s r _ h _ _ (c.loop.invariant.1 pv s r h) c.loop-test.true))

pub returns : goal.returns
returns c = λ pv s r h. walk-label _ pv s r _ h _ _ (c.loop.invariant.1 pv s r h) ∙ ap (λ (k : ℕ). get_or s k 0) (omega arith)
