-- `u_comes_first` meets its contract: what does not move all edges fixes one.
use borrow.Author.Rules.{rules}
use mathlib.Core.Path.{ap}
use mathlib.Core.Bool.{not}
use Rattle.lists.proofs.Tests.{not-true}
use Rattle.diagrams_entries.proofs.Answers.{no-fails}
use Rattle.labelling_rootings.specs.Among.{UComesFirst}
use Rattle.labelling_rootings.proofs.Moving.{not-holds, some-fixed}
use Rattle.labelling_rootings.proofs.u_comes_first.Goals as goal

pub returns : goal.returns
unfolding UComesFirst
returns c =
    let m = c.moves_all.ensures in (
      λ e. (no-fails c.fixes.ensures (search rules), some-fixed _ _ (no-fails m (not-holds _ e))),
      λ u. let (x, i, f) = u.1 in ap not (not-true _ (λ e. m.0 e x i f)),
    )
