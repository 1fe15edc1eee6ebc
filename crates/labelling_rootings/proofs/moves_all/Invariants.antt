-- `moves_all` meets its contract: all says whether each entry so far is another edge than its own.
use mathlib.Core.Logic.{◌≢◌}
use Prim.Native.Nat.{◌+◌}
use lib.ListN.{length, get_or}
use Rattle.diagrams_entries.proofs.Answers.{Tested}
use Rattle.labelling_rootings.proofs.moves_all.Given as goal

abbrev pub invariant-loop-i : goal.invariant-loop-i
invariant-loop-i l = Tested (λ k. get_or l.s0 k 0 ≢ k + 1) (length l.s0) l.i l.all
