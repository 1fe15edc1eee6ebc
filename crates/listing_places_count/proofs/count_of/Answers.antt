-- `count_of` adds the words that begin with U and those that begin with T.
use mathlib.Core.Path.{sym, ◌∙◌}
use Prim.Native.Nat.{◌-◌}
use native.Mathlib.Omega.{arith}
use Rattle.listing_table.proofs.Table.{ways-small}
use Rattle.listing_places_count.proofs.Count.{count-few, count-more}
use Rattle.listing_places_count.proofs.count_of.Goals as goal

pub returns-then-n-lt3 : goal.returns-then-n-lt3
returns-then-n-lt3 c = c.ways-single.ensures.inside (omega arith) ∙ sym (count-few _ (omega arith) c.if-n-lt3.true)

pub overflow_add-result : goal.overflow_add-result
overflow_add-result c =
    let a = c.ways-single.ensures.inside (omega arith) in
    let b = c.ways.ensures.inside (omega arith) in
    omega (arith, ways-small 1 (c.args.size - 1) (omega arith), ways-small 3 (c.args.size - 3) (omega arith))

pub returns : goal.returns
returns c =
    let a = c.ways-single.ensures.inside (omega arith) in
    let b = c.ways.ensures.inside (omega arith) in
    omega (arith, count-more c.args.size c.if-n-lt3.false)
