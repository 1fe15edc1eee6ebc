-- `sheet_positions` refuses a length that is no multiple of 52, then a list that is short, and else answers the cells.
use mathlib.Core.Path.{refl}
use native.Mathlib.Omega.{arith}
use mathlib.Core.Logic.{inl, inr}
use Rattle.sheet_positions.proofs.Answering.{divided, short, not_short}
use Rattle.sheet_positions.proofs.sheet_positions.Goals as goal

pub answer_cells-requires : goal.answer_cells-requires
answer_cells-requires c = let n = c.if-sheet-ne0.false in (divided c.args.sheet.now n, not_short c.args.sheet.now n c.args.refusals.now c.args.positions.now (omega arith) (omega arith))

pub returns-then-refusals-cells : goal.returns-then-refusals-cells
returns-then-refusals-cells c = (inr (refl, divided c.args.sheet.now c.if-sheet-ne0.false, inl (short c.args.sheet.now c.if-sheet-ne0.false _ c.if-refusals-cells.true)), refl, refl)

pub returns-then-positions-cells : goal.returns-then-positions-cells
returns-then-positions-cells c = (inr (refl, divided c.args.sheet.now c.if-sheet-ne0.false, inr (short c.args.sheet.now c.if-sheet-ne0.false _ c.if-positions-cells.true)), refl, refl)

pub returns : goal.returns
returns c =
    let n = c.if-sheet-ne0.false in
    let r = c.answer_cells.ensures in
    (divided c.args.sheet.now n, not_short c.args.sheet.now n c.args.refusals.now c.args.positions.now (omega arith) (omega arith), r.0, r.1)
