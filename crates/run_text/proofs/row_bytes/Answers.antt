-- Nine bytes an edge, and forty.
use mathlib.Core.Path.{refl}
use Rattle.census_definition.specs.Census.{row_bytes}
use Rattle.run_text.proofs.row_bytes.Goals as goal

pub returns : goal.returns
unfolding row_bytes
returns c = refl
