-- `connected_in` meets its contract: the list holds only edges that are reached, and with each visited edge both its neighbours.
use borrow.Author.Rules.{rules}
use native.Mathlib.Omega.{arith}
use Rattle.diagrams_search.proofs.Searching.{found_first, listed-edge, found-next, marks-connected}
use Rattle.diagrams_search.proofs.connected_in.Goals as goal

pub visit-count-requires-clause-one_to : goal.visit-count-requires-clause-one_to
visit-count-requires-clause-one_to c =
    let i = c.loop-done.invariant in
    rw c.to_index-k.ensures (listed-edge c.requires.mapped i.2 i.3 c.loop-done-test.true)

pub loop-done-init : goal.loop-done-init
loop-done-init c =
    let r = c.reach-count.ensures in
    (search rules, search rules, r.0, rw r.1 (found_first _ _))

pub loop-done-preserved : goal.loop-done-preserved
loop-done-preserved c =
    let m = c.requires.mapped in
    let i = c.loop-done.invariant in
    let v = c.visit-count.ensures in
    (search rules, search rules, v.0, rw (v.1, c.to_index-k.ensures) (found-next m i.2 i.3 c.loop-done-test.true))

pub returns : goal.returns
returns c =
    let i = c.loop-done.invariant in
    let e = marks-connected c.requires.mapped i.2 i.3 (omega arith) c.loop-done-test.false in
    (λ r. e.0 (c.all_reached.ensures.0 r), λ a. c.all_reached.ensures.1 (e.1 a))
