-- `ways` answers the table's number, which is the number of ways (`found`).
use Rattle.listing_table.proofs.Table.{found}
use Rattle.listing_table.proofs.ways.Goals as goal

pub returns : goal.returns
returns c = found _ _ _ c.look.ensures
