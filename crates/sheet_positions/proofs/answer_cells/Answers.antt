-- `answer_cells` meets its contract. Invariant: the first i cells are answered in the first i places of both lists (Answering, `Begun`).
use native.Mathlib.Omega.{arith}
use Rattle.sheet_positions.proofs.Answering.{cell-within, begun_more, begun_all}
use Rattle.sheet_positions.proofs.answer_cells.Goals as goal

pub bounds-refusals-i : goal.bounds-refusals-i
bounds-refusals-i c =
    let i = (cell-within _ _ _ c.requires.0 c.requires.1 _ c.loop-i-test.true).1 in
    let l = c.loop-i.invariant.first_long in
    omega arith

pub bounds-positions-i : goal.bounds-positions-i
bounds-positions-i c =
    let i = (cell-within _ _ _ c.requires.0 c.requires.1 _ c.loop-i-test.true).2 in
    let l = c.loop-i.invariant.second_long in
    omega arith

pub loop-i-preserved : goal.loop-i-preserved
loop-i-preserved c = begun_more _ _ _ c.requires.0 c.requires.1 _ _ _ c.loop-i.invariant c.loop-i-test.true _ c.answer_cell-answer.ensures

pub returns : goal.returns
returns c = begun_all _ _ _ c.requires.0 c.requires.1 _ _ _ c.loop-i.invariant (omega arith)
