-- `step` meets its contract: the numbers and the visits that it leaves are those of the step's run.
use borrow.Author.Rules.{rules}
use mathlib.Core.Path.{◌≡◌, ◌∙◌}
use Rattle.std.specs.Prelude.{None, Ok}
use Rattle.kaldvemir_upto.proofs.Left.{left-refused, left_end, left-given}
use Rattle.kaldvemir_upto.proofs.step.Goals as goal

pub returns-in-Err : goal.returns-in-Err
returns-in-Err c =
    let x = c.args in
    let d = c.step-stepped in
    let h = c.lent.ensures in
    let s = rw c.in-Err.is at (rw h.run at d.ensures) in
    let t = left-refused x.run.now x.visits.now d.result.run x.s0.now x.s1.now x.word.now _ _ _ _ h.whole s in
    (d.result.run, s, t.0, t.1)

pub returns-in-Ok-None : goal.returns-in-Ok-None
returns-in-Ok-None c =
    let x = c.args in
    let d = c.step-stepped in
    let h = c.lent.ensures in
    let is : c.step-stepped.result.answer ≡ Ok c.in-Ok-None.field-0 = c.in-Ok-None.is in
    let none : c.in-Ok-None.field-0 ≡ None = rw is at c.in-Ok-None.field-0-is in
    let s = rw none at (rw is at (rw h.run at d.ensures)) in
    let t = left_end x.run.now x.visits.now d.result.run x.s0.now x.s1.now x.word.now _ _ _ s in
    (d.result.run, s, c.put_back.ensures ∙ t.0, t.1)
