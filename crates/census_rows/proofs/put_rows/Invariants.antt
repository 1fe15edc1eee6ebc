-- The lines one after another: each turn puts one row more.
use Rattle.census_rows.proofs.Rows.{RowsMidway}
use Rattle.census_rows.proofs.put_rows.Given as goal

abbrev pub invariant-loop-i : goal.invariant-loop-i
invariant-loop-i l = RowsMidway l.listed l.n l.rows l.s0 l.s1 l.words l.lengths l.marks l.initial.out l.count l.out l.end l.kept l.first l.item l.i
