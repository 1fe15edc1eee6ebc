-- `answer_cells` meets its contract. Invariant: the first i cells are answered in the first i places of both lists (Answering, `Begun`).
use Rattle.sheet_positions.proofs.Answering.{Begun}
use Rattle.sheet_positions.proofs.answer_cells.Given as goal

abbrev pub invariant-loop-i : goal.invariant-loop-i
invariant-loop-i l = Begun l.sheet l.initial.refusals l.initial.positions l.i l.refusals l.positions
