-- The last line is the last part.
use Rattle.census_parts.proofs.Texts.{last-given}
use Rattle.census_parts.proofs.last_part.Goals as goal

pub returns : goal.returns
returns c = let P = c.requires in last-given P.0 P.1 P.2 c.put_totals.ensures
