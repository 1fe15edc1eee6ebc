-- `last_raise` meets its contract. Invariant: the items before i lead to the state, and what was kept is the last of them that can be raised.
use Rattle.upto_successor.proofs.Raises.{reached-start, turned_same, turned-raised, reached-more, reached-all}
use Rattle.upto_successor.proofs.last_raise.Goals as goal
use Rattle.upto_successor.proofs.last_raise.Goals.{then-e-gt0, else-e-gt0}

pub loop-i-init : goal.loop-i-init
loop-i-init c = reached-start _ _ _ c.requires.0

pub loop-i-preserved : goal.loop-i-preserved
loop-i-preserved c =
    let I = c.loop-i.invariant in
    let small = c.loop-i-test.true in
    elim c.if-e-gt0.branch [
      | then-e-gt0 w ↦ reached-more _ _ _ _ _ _ _ _ _ I small c.state_after_item-l.result c.state_after_item-l.ensures _ _ _ (turned-raised _ _ _ _ _ _ _ _ _ I small _ _ _ _ c.above-e.ensures w.if-e-gt0.true w.state_after_item-raised.result w.state_after_item-raised.ensures w.place-is w.event-is w.pending-is)
      | else-e-gt0 w ↦ reached-more _ _ _ _ _ _ _ _ _ I small c.state_after_item-l.result c.state_after_item-l.ensures _ _ _ (turned_same _ _ _ _ _ _ _ _ _ I small _ _ _ _ c.above-e.ensures w.if-e-gt0.false w.place-is w.event-is w.pending-is)
    ]

pub returns : goal.returns
returns c = reached-all _ _ _ _ _ _ _ _ _ c.loop-i.invariant c.loop-i-test.false
