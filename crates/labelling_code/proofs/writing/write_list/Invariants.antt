-- `write_list` meets its contract. The loop's invariant: the entries of the labels 1..j are written.
use mathlib.Core.Path.{◌≡◌}
use mathlib.Core.List.{List, ◌++◌}
use Prim.Native.Nat.{ℕ}
use lib.ListN.{length, drop}
use Rattle.lists.specs.Lists.{at, tabulate}
use Rattle.labelling.specs.Labelling.{relabel}
use Rattle.labelling_code.specs.Scratch.{LabelsHeld}
use Rattle.labelling_code.proofs.writing.write_list.Given as goal

abbrev pub invariant-loop-j : goal.invariant-loop-j
invariant-loop-j l = (o : List ℕ) → LabelsHeld l.labels l.order (length l.s) o → l.t ≡ tabulate (relabel o (at l.s)) l.j ++ drop l.j l.initial.t
