-- The digits counted: those passed and those of what is left of m are together those of m.
use mathlib.Core.Path.{ap}
use native.Mathlib.Omega.{arith}
use lib.ListN.{length}
use Rattle.words_decimals.proofs.Decimal.{decimal-length, decimal-some, decimal-small, length_more}
use Rattle.words_decimals.proofs.decimal_length.Goals as goal

pub overflow_add-n : goal.overflow_add-n
overflow_add-n c = omega (arith, decimal-length c.args.m, decimal-some c.loop-x.x)

pub loop-x-preserved : goal.loop-x-preserved
loop-x-preserved c = omega (arith, length_more c.loop-x.x (omega arith) c.loop-x-test.true)

pub returns : goal.returns
returns c = omega (arith, ap length (decimal-small c.loop-x.x c.loop-x-test.false))
