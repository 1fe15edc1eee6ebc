-- `unkept` meets its contract, by the verdict's cases: a word that U comes before is not the least.
use mathlib.Core.Path.{refl}
use Rattle.labelling.specs.Rootings.{Kept}
use Rattle.labelling_rootings.specs.Among.{NoneBefore}
use Rattle.labelling_rootings.proofs.NotLeast.{u-not-least}
use Rattle.labelling_operations_rootings.proofs.unkept.Goals as goal

pub returns : goal.returns
unfolding Kept NoneBefore
returns c = (c.in_ok-check.ensures, u-not-least _ _ _ _ refl c.requires)
