-- `all_visits` adds up the branches after U and, where there are three labels for it, after T.
use mathlib.Core.Path.{sym, ◌∙◌}
use Prim.Native.Nat.{◌-◌}
use native.Mathlib.Omega.{arith}
use Rattle.upto_table.proofs.Table.{branches-small}
use Rattle.upto_visits.proofs.Words.{whole-few, whole-more}
use Rattle.upto_visits.proofs.all_visits.Goals as goal

pub returns-then-n-lt3 : goal.returns-then-n-lt3
returns-then-n-lt3 c = c.branches.ensures.inside (omega arith) ∙ sym (whole-few _ c.requires.0 c.if-n-lt3.true)

pub overflow_add-result : goal.overflow_add-result
overflow_add-result c =
    omega (arith, c.branches-2.ensures.inside (omega arith), c.branches-3.ensures.inside (omega arith), branches-small 1 (c.args.n - 1) (omega arith), branches-small 3 (c.args.n - 3) (omega arith))

pub returns : goal.returns
returns c =
    omega (arith, c.branches-2.ensures.inside (omega arith), c.branches-3.ensures.inside (omega arith), whole-more c.args.n c.if-n-lt3.false)
