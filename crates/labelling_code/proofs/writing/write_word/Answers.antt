-- `write_word` meets its contract.
use borrow.Author.Rules.{rules}
use native.Mathlib.Omega.{arith}
use lib.ListN.{length-set}
use Rattle.labelling_code.proofs.Sofar.{filled-begin, filled-length, filled-event, filled-room, filled_more, filled-end, filled-none-pending, wrote-first}
use Rattle.labelling_code.proofs.writing.write_word.Goals as goal

pub loop-next-init : goal.loop-next-init
loop-next-init c = (_, filled-begin _ _ _ _ _ _ _ _ c.args.word.now (let l = c.requires.s0_in_bounds.2 in omega arith) (c.begin-first.ensures _ c.requires.rooted_maps), search rules, search rules)

pub event-done-requires : goal.event-done-requires
event-done-requires c = filled-event _ _ _ _ _ _ _ _ _ _ _ _ _ c.loop-next.invariant.1 c.loop-next-test.true

pub bounds-word-len : goal.bounds-word-len
bounds-word-len c =
    let i = filled-room _ _ _ _ _ _ _ _ _ _ _ _ _ c.loop-next.invariant.1 c.loop-next-test.true in
    let l = c.requires.s0_in_bounds.2 in
    let j = filled-length _ _ _ _ _ _ _ _ _ _ _ _ _ c.loop-next.invariant.1 (simp length-set l) in
    let k = length-set c.args.word.now 0 c.begin-first.result.item in
    omega arith

pub loop-next-smaller : goal.loop-next-smaller
loop-next-smaller c = let i = filled-room _ _ _ _ _ _ _ _ _ _ _ _ _ c.loop-next.invariant.1 c.loop-next-test.true in omega arith

pub loop-next-preserved : goal.loop-next-preserved
loop-next-preserved c =
    let i = c.loop-next.invariant in
    (_, filled_more _ _ _ _ _ _ _ _ _ _ _ _ _ i.1 c.loop-next-test.true (simp length-set c.requires.s0_in_bounds.2) _ _ _ _ _ c.event-done.ensures, omega arith, omega arith)

pub returns-clause-written : goal.returns-clause-written
returns-clause-written c = wrote-first _ _ _ _ _ _ _ _ _ _ (filled-end _ _ _ _ _ _ _ _ _ _ _ _ _ c.loop-next.invariant.1 c.loop-next-test.false)

pub returns-clause-empty : goal.returns-clause-empty
returns-clause-empty c = filled-none-pending _ _ _ _ _ _ _ _ _ _ _ _ _ c.loop-next.invariant.1 c.loop-next-test.false
