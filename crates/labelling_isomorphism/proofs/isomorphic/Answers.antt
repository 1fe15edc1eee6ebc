-- `isomorphic` meets its contract: isomorphic diagrams have one size, and equal words decide.
use Rattle.labelling_isomorphism.proofs.Decided.{root-isomorphic, any-rooting-isomorphic}
use Rattle.labelling_isomorphism.proofs.isomorphic.Goals as goal

pub returns-then-rooted : goal.returns-then-rooted
returns-then-rooted c = let (a, b) = c.requires in rw c.if-rooted.true (root-isomorphic _ _ _ _ _ _ a b _ c.ask.ensures)

pub returns : goal.returns
returns c = let (a, b) = c.requires in rw c.if-rooted.false (any-rooting-isomorphic _ _ _ _ _ _ a b _ c.ask-2.ensures)
