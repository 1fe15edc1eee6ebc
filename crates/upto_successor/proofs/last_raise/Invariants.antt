-- `last_raise` meets its contract. Invariant: the items before i lead to the state, and what was kept is the last of them that can be raised.
use Rattle.upto_successor.proofs.Raises.{Reached}
use Rattle.upto_successor.proofs.last_raise.Given as goal

abbrev pub invariant-loop-i : goal.invariant-loop-i
invariant-loop-i l = Reached l.height l.free l.items l.i l.h l.f l.place l.event l.pending
