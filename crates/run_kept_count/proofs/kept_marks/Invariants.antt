-- The marks one after another: each turn counts one more.
use Rattle.run_kept_count.proofs.Counting.{MarksCounted}
use Rattle.run_kept_count.proofs.kept_marks.Given as goal

abbrev pub invariant-loop-i : goal.invariant-loop-i
invariant-loop-i l = MarksCounted l.marks l.rows l.kept l.i
