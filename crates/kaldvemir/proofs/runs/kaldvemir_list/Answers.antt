-- `kaldvemir_list` meets its contract: the numbers that the answer leaves are those of the listing's run.
use mathlib.Core.Path.{◌∙◌}
use borrow.Author.Rules.{rules}
use Rattle.kaldvemir.proofs.Blocks.{left-fits, left-numbers, list_left}
use Rattle.kaldvemir.proofs.runs.kaldvemir_list.Goals as goal

pub list_answer-requires : goal.list_answer-requires
list_answer-requires c =
    let x = c.args in
    let l = x.run.now in
    let d = c.list-listed in
    let h = c.held.ensures in
    (h.whole, left-fits l d.result.run d.result.answer (list_left l x.rows d.result.run x.s0.now x.s1.now x.words.now x.lengths.now d.new.s0 d.new.s1 d.new.words d.new.lengths d.result.answer (rw h.run at d.ensures)))

pub returns : goal.returns
returns c =
    let x = c.args in
    let l = x.run.now in
    let h = c.held.ensures in
    let d = c.list-listed in
    let s = rw h.run at d.ensures in
    (d.result.answer, d.result.run, s, c.list_answer.ensures.0, c.list_answer.ensures.1, c.list_answer.ensures.2 ∙ left-numbers l d.result.run d.result.answer h.whole (list_left l x.rows d.result.run x.s0.now x.s1.now x.words.now x.lengths.now d.new.s0 d.new.s1 d.new.words d.new.lengths d.result.answer s))
