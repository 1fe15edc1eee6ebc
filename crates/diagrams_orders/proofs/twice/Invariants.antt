-- `twice` meets its contract: the loop has passed only edges that two steps give back.
use mathlib.Core.Path.{◌≡◌}
use Rattle.lists.specs.Lists.{at}
use Rattle.diagrams_entries.proofs.Answers.{Passed}
use Rattle.diagrams_orders.proofs.twice.Given as goal

abbrev pub invariant-loop-x : goal.invariant-loop-x
invariant-loop-x l = Passed (λ y. at l.s1 (at l.s1 y) ≡ y) l.n l.x
