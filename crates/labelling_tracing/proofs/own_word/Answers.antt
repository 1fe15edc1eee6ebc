-- `own_word` meets its contract.
use borrow.Author.Rules.{rules}
use mathlib.Core.Path.{refl}
use native.Mathlib.Omega.{arith}
use lib.ListN.{length-set}
use Rattle.labelling_tracing.proofs.Sofar.{sofar-underway, filled-begin, filled-length, filled-room, filled_more, filled-end, wrote-first}
use Rattle.labelling_tracing.proofs.own_word.Goals as goal

pub loop-next-init : goal.loop-next-init
loop-next-init c = ((_, filled-begin c.begin-first.result c.args.word.now (search rules) (c.begin-first.ensures _ c.requires.mapped.0)), refl)

pub event-done-requires : goal.event-done-requires
event-done-requires c = sofar-underway c.loop-next.invariant.0.1.sofar c.loop-next-test.true

pub bounds-word-len : goal.bounds-word-len
bounds-word-len c =
    let i = filled-room c.loop-next.invariant.0.1 c.loop-next-test.true in
    let l = c.requires.s0_in_bounds in
    let j = filled-length c.loop-next.invariant.0.1 (simp length-set l) in
    let k = length-set c.args.word.now 0 c.begin-first.result.item in
    omega arith

pub loop-next-smaller : goal.loop-next-smaller
loop-next-smaller c = let i = filled-room c.loop-next.invariant.0.1 c.loop-next-test.true in omega arith

pub loop-next-preserved : goal.loop-next-preserved
loop-next-preserved c = (
  (_, filled_more c.loop-next.invariant.0.1 c.loop-next-test.true (simp length-set c.requires.s0_in_bounds) _ _ _ c.event-done.result c.event-done.ensures),
  search rules,
)

pub returns : goal.returns
returns c = wrote-first _ _ _ (filled-end c.loop-next.invariant.0.1 c.loop-next-test.false)
