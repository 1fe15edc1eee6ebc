-- `branches_f` looks up the branches that begin with F where there are three labels free.
use mathlib.Core.Path.{sym, ◌∙◌}
use native.Mathlib.Omega.{arith}
use Rattle.upto_visits.proofs.Passing.{weight_f-few, weight_f-more}
use Rattle.upto_visits.proofs.branches_f.Goals as goal

pub returns-then-f-lt3 : goal.returns-then-f-lt3
returns-then-f-lt3 c = sym (weight_f-few _ _ c.if-f-lt3.true)

pub returns : goal.returns
returns c = c.branches.ensures.inside (omega arith) ∙ sym (weight_f-more _ _ c.if-f-lt3.false)
