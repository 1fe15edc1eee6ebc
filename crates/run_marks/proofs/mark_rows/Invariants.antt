-- `mark_rows` meets its contract: before each row the marks are as `Marking` says.
use Rattle.run_marks.proofs.Marking.{Marking}
use Rattle.run_marks.proofs.mark_rows.Given as goal

abbrev pub invariant-loop-i : goal.invariant-loop-i
invariant-loop-i l = Marking l.n l.rows l.s0 l.s1 l.words l.lengths l.initial.marks l.marks l.stamps l.next l.prev l.edge l.place l.i
