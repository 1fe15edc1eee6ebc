use Rattle.std.proofs.Common.{refl}
use Rattle.census_parts.proofs.Texts.{begins}
use Rattle.census_text.proofs.print.Goals as goal

pub loop-progress-init : goal.loop-progress-init
loop-progress-init g c = (rw c.begin-progress.ensures (begins _ c.requires.0), refl)
