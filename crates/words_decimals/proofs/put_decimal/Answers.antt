-- The digits are written from the last to the first: what is left to write is a smaller decimal at the same place (`Left`).
use mathlib.Core.Path.{ap}
use Prim.Native.Nat.{◌+◌}
use native.Mathlib.Omega.{arith}
use Rattle.words_decimals.proofs.Decimal.{left-more, left-last, decimal-some}
use Rattle.words_decimals.proofs.Writing.{wrote-put}
use Rattle.words_decimals.proofs.put_decimal.Goals as goal

pub overflow_sub-end : goal.overflow_sub-end
overflow_sub-end c = omega (arith, decimal-some c.loop-x.x)

pub bounds-out-end : goal.bounds-out-end
bounds-out-end c = omega (arith, decimal-some c.loop-x.x)

pub loop-x-preserved : goal.loop-x-preserved
loop-x-preserved c = left-more _ _ _ _ _ _ (omega arith) c.loop-x.invariant c.loop-x-test.true

pub bounds-out-place : goal.bounds-out-place
bounds-out-place c = omega (arith, decimal-some c.loop-x.x)

pub returns : goal.returns
returns c = wrote-put _ _ _ _ _ (omega arith) record { next = ap (λ k. c.args.place + k) c.decimal_length-n.ensures; bytes = left-last _ _ _ _ _ _ c.loop-x.invariant c.loop-x-test.false }
