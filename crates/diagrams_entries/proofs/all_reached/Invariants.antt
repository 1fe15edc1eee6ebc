-- `all_reached` meets its contract: all says whether each mark so far is 1.
use borrow.Author.Rules.{rules}
use mathlib.Core.Path.{◌≡◌}
use Prim.Native.Nat.{◌-◌}
use lib.ListN.{length, get_or}
use Rattle.lists.proofs.Tests.{eqb-true, eqb-eq}
use Rattle.diagrams_entries.proofs.Answers.{Tested, tested-none, tested-more, tested-all}
use Rattle.diagrams_entries.proofs.all_reached.Given as goal

abbrev pub invariant-loop-mark : goal.invariant-loop-mark
invariant-loop-mark l = Tested (λ k. get_or l.marks k 0 ≡ 1) (length l.marks) l.mark-index l.all
