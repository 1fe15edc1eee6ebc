-- `ask` meets its contract, in small arrays and in large ones.
use native.Mathlib.Omega.{arith}
use Rattle.labelling_tracing_events.proofs.Stamps.{zeros-below}
use Rattle.labelling_comparison.proofs.ask.Goals as goal

pub ask_in-requires-clause-below : goal.ask_in-requires-clause-below
ask_in-requires-clause-below c = zeros-below 65 (omega arith) (omega arith)

pub ask_in-requires-2-clause-below : goal.ask_in-requires-2-clause-below
ask_in-requires-2-clause-below c = let n = c.requires.accepts.1.size in zeros-below 1025 (omega arith) (omega arith)
