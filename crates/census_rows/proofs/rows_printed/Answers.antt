-- The tests, one after another.
use native.Mathlib.Omega.{arith}
use Rattle.census_rows.proofs.Rows.{printed-many, printed-large, printed-far, printed-all}
use Rattle.census_rows.proofs.rows_printed.Goals as goal

pub returns-then-rows-gt-ROWS : goal.returns-then-rows-gt-ROWS
returns-then-rows-gt-ROWS c = printed-many _ _ _ (omega arith)

pub returns-then-n-gt-MAX_LISTED : goal.returns-then-n-gt-MAX_LISTED
returns-then-n-gt-MAX_LISTED c = printed-large _ _ _ (omega arith) (omega arith)

pub returns-then-listed-rows : goal.returns-then-listed-rows
returns-then-listed-rows c = printed-far _ _ _ (omega arith) (omega arith) (omega arith)

pub returns : goal.returns
returns c = printed-all _ _ _ (omega arith) (omega arith) (omega arith)
