-- `connected_in` meets its contract: the list holds only edges that are reached, and with each visited edge both its neighbours.
use Prim.Native.Nat.{◌-◌}
use mathlib.Core.Path.{◌≡◌}
use lib.ListN.{length, take}
use Rattle.lists.specs.Lists.{at}
use Rattle.diagrams_search.specs.Search.{Search}
use Rattle.diagrams_search.proofs.Searching.{Found}
use Rattle.diagrams_search.proofs.connected_in.Given as goal

abbrev pub invariant-loop-done : goal.invariant-loop-done
invariant-loop-done l =
    (length l.marks ≡ length l.initial.marks) × (length l.list ≡ length l.initial.list) × Search l.marks l.list l.count × Found (at l.s0) (at l.s1) (take l.count l.list) l.done

abbrev pub decreases-loop-done : goal.decreases-loop-done
decreases-loop-done l = length l.marks - l.done
