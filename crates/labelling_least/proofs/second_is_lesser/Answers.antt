-- `second_is_lesser` meets its contract: a last item left off does not alter the order.
use mathlib.Core.Path.{◌∙◌}
use native.Mathlib.Omega.{arith}
use Rattle.labelling_least.proofs.LesserPart.{without-last, without-last-of-first}
use Rattle.labelling_least.proofs.second_is_lesser.Goals as goal

pub returns-then-b-last : goal.returns-then-b-last
returns-then-b-last c = c.second_by_length-then-b-last.ensures ∙ without-last c.args.a.now c.args.b.now _ (omega arith) (omega arith) c.if-b-last.true

pub returns : goal.returns
returns c = c.second_by_length-2.ensures ∙ without-last-of-first c.args.a.now c.args.b.now _ (omega arith) (omega arith) c.if-b-last.false
