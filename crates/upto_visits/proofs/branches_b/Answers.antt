-- `branches_b` looks up the branches that begin with B where there is a label free.
use mathlib.Core.Path.{sym, ◌∙◌}
use native.Mathlib.Omega.{arith}
use Rattle.upto_visits.proofs.Passing.{weight_b-few, weight_b-more}
use Rattle.upto_visits.proofs.branches_b.Goals as goal

pub returns-then-f-lt1 : goal.returns-then-f-lt1
returns-then-f-lt1 c = sym (weight_b-few _ _ c.if-f-lt1.true)

pub returns : goal.returns
returns c = c.branches.ensures.inside (omega arith) ∙ sym (weight_b-more _ _ c.if-f-lt1.false)
