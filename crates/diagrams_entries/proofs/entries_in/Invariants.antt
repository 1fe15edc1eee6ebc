-- `entries_in` meets its contract: good says whether each entry so far is an edge.
use borrow.Author.Rules.{rules}
use Prim.Native.Nat.{◌-◌}
use lib.ListN.{length, get_or}
use Rattle.lists.specs.Ranges.{OneTo}
use Rattle.lists.proofs.Lists.{places-edges}
use Rattle.diagrams_entries.proofs.Answers.{edge_test, Tested, tested-none, tested-more, tested-all}
use Rattle.diagrams_entries.proofs.entries_in.Given as goal

abbrev pub invariant-loop-x : goal.invariant-loop-x
invariant-loop-x l = Tested (λ k. OneTo (length l.s) (get_or l.s k 0)) (length l.s) l.x-index l.good
