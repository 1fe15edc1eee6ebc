-- Past the row both are 0.
use Rattle.std.proofs.Common.{◌≤◌, length, arith, sym}
use Rattle.std.proofs.Math.ListN.{get_or-eq_default}
use Rattle.upto_table_rows.specs.Rows.{row7}
use Rattle.upto_table_rows.proofs.row7.Goals as goal

pub returns-in_default : goal.returns-in_default
returns-in_default c = let l : length row7 ≤ c.args.f = omega arith in sym (get_or-eq_default row7 0 l)
