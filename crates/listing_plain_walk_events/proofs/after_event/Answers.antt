-- `after_event` meets its contract: each arm is the law of where its event leads.
use native.Mathlib.Omega.{arith}
use Rattle.listing_plain_walk_events.proofs.Rest.{leads-W, leads-F, leads-no-F, leads-B, leads-no-B, leads-J}
use Rattle.listing_plain_walk_events.proofs.after_event.Goals as goal

pub returns-in-0 : goal.returns-in-0
returns-in-0 c = rw c.in-0.is (leads-W _ _)

pub returns-then-f-ge3 : goal.returns-then-f-ge3
returns-then-f-ge3 c = rw c.in-1.is (leads-F _ _ (omega arith))

pub returns-else-f-ge3 : goal.returns-else-f-ge3
returns-else-f-ge3 c = rw c.in-1.is (leads-no-F _ _ (omega arith))

pub returns-then-f-ge1 : goal.returns-then-f-ge1
returns-then-f-ge1 c = rw c.in-2.is (leads-B _ _ (omega arith))

pub returns-else-f-ge1 : goal.returns-else-f-ge1
returns-else-f-ge1 c = rw c.in-2.is (leads-no-B _ _ (omega arith))

pub returns-in_default : goal.returns-in_default
returns-in_default c = leads-J _ _ _ (omega arith) (omega arith)
