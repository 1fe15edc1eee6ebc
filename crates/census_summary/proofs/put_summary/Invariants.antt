-- The lines one after another: each turn puts one more.
use Rattle.census_summary.proofs.Lines.{LinesPut}
use Rattle.census_summary.proofs.put_summary.Given as goal

abbrev pub invariant-loop-size : goal.invariant-loop-size
invariant-loop-size l = LinesPut l.behind l.initial.out l.out l.end l.size
