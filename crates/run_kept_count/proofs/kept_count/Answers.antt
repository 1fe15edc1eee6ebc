-- `listed` decides the refusal.
use mathlib.Core.Path.{refl}
use Rattle.run_kept_count.proofs.kept_count.Goals as goal

pub kept_of_size-requires : goal.kept_of_size-requires
kept_of_size-requires c = c.listed.ensures.0 c.if-listed.true

pub returns-then-listed : goal.returns-then-listed
returns-then-listed c = (c.listed.ensures.0 c.if-listed.true, c.kept_of_size.ensures)

pub returns : goal.returns
returns c = (refl, c.listed.ensures.1 c.if-listed.false)
