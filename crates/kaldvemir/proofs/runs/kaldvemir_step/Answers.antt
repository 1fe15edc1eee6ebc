-- `kaldvemir_step` meets its contract: the numbers that the answer leaves are those of the step's run.
use mathlib.Core.Path.{◌∙◌}
use borrow.Author.Rules.{rules}
use Rattle.kaldvemir.proofs.Stepped.{step_left}
use Rattle.kaldvemir.proofs.runs.kaldvemir_step.Goals as goal

pub returns : goal.returns
returns c =
    let x = c.args in
    let l = x.run.now in
    let h = c.held.ensures in
    let d = c.step-stepped in
    let s = rw h.run at d.ensures in
    (d.result.answer, d.result.run, s, c.step_answer.ensures.0, c.step_answer.ensures.1, c.step_answer.ensures.2 ∙ step_left l d.result.run x.s0.now x.s1.now x.word.now d.new.s0 d.new.s1 d.new.word d.result.answer h.whole s)
