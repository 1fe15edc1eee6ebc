-- `held` meets its contract: each list is filled into an array of zeros.
use mathlib.Core.Path.{refl, ◌∙◌}
use Rattle.diagrams.proofs.Holding.{filled-padded}
use Rattle.diagrams.proofs.held.Goals as goal

pub returns : goal.returns
returns c = record {
  size = refl;
  root_is = refl;
  black = c.fill.ensures ∙ filled-padded c.args.s0.now c.requires.size.1;
  white = c.fill-2.ensures ∙ filled-padded c.args.s1.now (rw c.requires.lengths c.requires.size.1);
}
