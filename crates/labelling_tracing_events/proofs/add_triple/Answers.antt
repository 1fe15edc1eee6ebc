-- `add_triple` meets its contract: three stamps and two pushes, one after the other.
use Rattle.labelling_tracing_events.proofs.add_triple.Goals as goal

pub returns-clause-pushed : goal.returns-clause-pushed
returns-clause-pushed c = λ st r nq ns. c.push-2.ensures _ (c.push.ensures st r nq) ns
