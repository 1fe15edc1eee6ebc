-- The header is the first part.
use Rattle.census_parts.proofs.Texts.{header-given}
use Rattle.census_parts.proofs.header_part.Goals as goal

pub returns : goal.returns
returns c = let P = c.requires in header-given P.0 P.1 c.put_header.ensures
