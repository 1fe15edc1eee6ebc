-- The part, or none of the list where it does not reach so far.
use native.Mathlib.Omega.{arith}
use Rattle.census_rows.proofs.Rows.{part_of, part_none}
use Rattle.census_rows.proofs.part.Goals as goal

pub returns-then-list-from : goal.returns-then-list-from
returns-then-list-from c = part_none _ _ _ (omega arith)

pub returns-then-list-from-2 : goal.returns-then-list-from-2
returns-then-list-from-2 c = part_none _ _ _ (omega arith)

pub returns : goal.returns
returns c = part_of _ _ _ (omega arith)
