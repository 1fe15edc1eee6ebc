-- The letters of the events written one after another: what is left to write is those of the events to come (`Rest`).
use native.Mathlib.Omega.{arith}
use Rattle.words_letters.proofs.Lettering.{rest_more, rest_end, length_from}
use Rattle.words_letters.proofs.put_events.Goals as goal

pub put_event-next-requires : goal.put_event-next-requires
put_event-next-requires c = omega (arith, length_from c.args.items.now c.loop-x.x-index c.loop-x-test.true)

pub loop-x-preserved : goal.loop-x-preserved
loop-x-preserved c = rest_more _ _ _ _ _ _ _ _ c.loop-x-test.true c.loop-x.invariant c.put_event-next.ensures

pub returns : goal.returns
returns c = rest_end _ _ _ _ _ _ c.loop-x-test.false c.loop-x.invariant
