-- Twice the pending edges plus the labels free falls with each event, the popped edge counting as pending until its event is chosen; it is doubled
-- here, so that the pop falls too. The loop's invariant: the events below e are done with.
use Rattle.std.proofs.Common.{◌+◌, ◌*◌}
use Rattle.listing_plain_walk.proofs.Steps.{Branched}
use Rattle.listing_plain_walk.proofs.+branch_end_or_pop.Given as goal

abbrev pub decreases-branch : goal.decreases-branch
decreases-branch l = 2 * (2 * (l.h + 1) + l.f)

abbrev pub decreases-end_or_pop : goal.decreases-end_or_pop
decreases-end_or_pop l = 2 * (2 * l.h + l.f) + 1

abbrev pub invariant-branch-loop-e : goal.invariant-branch-loop-e
invariant-branch-loop-e l = Branched l.fn.out l.place l.fn.word l.len l.h l.f l.out l.word l.end l.e
