-- `add_triple` meets its contract: three labels and two pushes, one after the other.
use Rattle.labelling_arrays.proofs.add_triple.Goals as goal

pub returns-clause-held : goal.returns-clause-held
returns-clause-held c = λ o h. c.give_label-c.ensures.held _ (c.give_label-b.ensures.held _ (c.give_label-a.ensures.held o h))

pub returns-clause-pushed : goal.returns-clause-pushed
returns-clause-pushed c = λ st r nq ns. c.push-2.ensures _ (c.push.ensures st r nq) ns
