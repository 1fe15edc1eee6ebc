-- `branches` answers the table's number, which is the number of branches (`found`).
use Rattle.upto_table.proofs.Table.{found}
use Rattle.upto_table.proofs.branches.Goals as goal

pub returns : goal.returns
returns c = found _ _ _ c.look.ensures
