-- `look` finds the number of a low row at its place, and for a high row finds the row and in it the number; past the table the number is 0.
use mathlib.Core.Path.{◌∙◌}
use native.Mathlib.Omega.{arith}
use Rattle.upto_table_low.proofs.Flat.{low-at}
use Rattle.upto_table.proofs.look.Goals as goal

pub returns-then-h-lt6 : goal.returns-then-h-lt6
returns-then-h-lt6 c = c.number.ensures ∙ low-at c.args.h c.args.f (omega arith) (omega arith)
