-- `entries_in` meets its contract: good says whether each entry so far is an edge.
use borrow.Author.Rules.{rules}
use Prim.Native.Nat.{◌-◌}
use lib.ListN.{length, get_or}
use Rattle.lists.specs.Ranges.{OneTo}
use Rattle.lists.proofs.Lists.{places-edges}
use Rattle.diagrams_entries.proofs.Answers.{edge_test, Tested, tested-none, tested-more, tested-all}
use Rattle.diagrams_entries.proofs.entries_in.Goals as goal

pub returns : goal.returns
returns c =
    let a = tested-all _ c.loop-x.invariant c.loop-x-test.false in
    let b = places-edges (OneTo (length c.args.s.now)) c.args.s.now in
    (λ q. b.0 (a.0 q), λ e. a.1 (b.1 e))
