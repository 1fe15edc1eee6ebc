-- Twice the pending edges plus the labels free falls with each event, and each event writes its part.
use Rattle.std.proofs.Common.{arith, ◌≡◌, ◌+◌}
use Rattle.listing_plain_walk.proofs.Steps.{branched-none, branched-room, branched-more, branched-all, dead, ending, ended}
use Rattle.listing_plain_walk.proofs.+branch_end_or_pop.Goals as goal

pub branch-loop-e-init : goal.branch-loop-e-init
branch-loop-e-init t c = branched-none _ _ _ _ _ _

pub branch-end_or_pop-end-requires : goal.branch-end_or_pop-end-requires
branch-end_or_pop-end-requires t c = (
  omega (arith, c.after_event-left.ensures.falls),
  branched-room c.args.out.now c.args.place c.args.word.now c.args.len c.args.h c.args.f c.loop-e.out c.loop-e.word c.loop-e.end c.loop-e.e
      c.after_event-left.result.h c.after_event-left.result.f c.loop-e.invariant c.requires (omega arith) c.after_event-left.ensures,
)

pub branch-loop-e-preserved : goal.branch-loop-e-preserved
branch-loop-e-preserved t c =
    branched-more c.args.out.now c.args.place c.args.word.now c.args.len c.args.h c.args.f c.loop-e.out c.loop-e.word c.loop-e.end c.loop-e.e
    c.after_event-left.result.h c.after_event-left.result.f c.loop-e.invariant c.requires (omega arith) c.after_event-left.ensures _ _ _
    c.end_or_pop-end.auto.out c.end_or_pop-end.auto.word c.end_or_pop-end.ensures

pub branch-returns : goal.branch-returns
branch-returns t c =
    let e : c.loop-e.e ≡ c.args.h + 3 = omega arith in
    branched-all _ _ _ _ _ _ _ _ _ (rw e at c.loop-e.invariant)

pub end_or_pop-write-requires : goal.end_or_pop-write-requires
end_or_pop-write-requires t c =
    ending c.args.out.now c.args.place c.args.word.now c.args.len (rw (c.if-h-eq0.true, c.if-all_given.true) at c.requires)

pub end_or_pop-returns-then-all_given : goal.end_or_pop-returns-then-all_given
end_or_pop-returns-then-all_given t c =
    rw (c.if-h-eq0.true, c.if-all_given.true)
    (ended c.args.out.now c.args.place c.args.word.now c.args.len _ _ (omega (arith, c.requires.places)) c.write.ensures)

pub end_or_pop-returns-else-all_given : goal.end_or_pop-returns-else-all_given
end_or_pop-returns-else-all_given t c = rw c.if-h-eq0.true (dead _ _ _ _ _ c.if-all_given.false)
