-- `own_maps` meets its contract, in small arrays and in large ones.
use native.Mathlib.Omega.{arith}
use Rattle.labelling_tracing_events.proofs.Stamps.{zeros-below}
use Rattle.labelling_comparison.proofs.own_maps.Goals as goal

pub own_in-requires-clause-below : goal.own_in-requires-clause-below
own_in-requires-clause-below c = zeros-below 65 (omega arith) (omega arith)

pub own_in-requires-2-clause-below : goal.own_in-requires-2-clause-below
own_in-requires-2-clause-below c = let n = c.requires.mapped.size in zeros-below 1025 (omega arith) (omega arith)
