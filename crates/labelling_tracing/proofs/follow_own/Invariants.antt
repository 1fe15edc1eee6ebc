-- `follow_own` meets its contract. The loop's invariant: the items found are own's, but for the last, and the labelling stands behind them.
use mathlib.Core.Path.{◌≡◌}
use lib.ListN.{length}
use Rattle.labelling_tracing.proofs.Tracked.{Tracked}
use Rattle.labelling_tracing.proofs.follow_own.Given as goal

abbrev pub invariant-loop-place : goal.invariant-loop-place
invariant-loop-place l = Tracked l.s0 l.s1 l.root l.stamps l.next l.prev l.given l.own l.place l.item × (length l.stamps ≡ length l.initial.stamps)
