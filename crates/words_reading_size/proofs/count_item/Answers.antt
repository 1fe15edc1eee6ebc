-- One item: 26 where nothing is pending; otherwise each item by its law.
use mathlib.Core.Path.{◌≡◌}
use Prim.Native.Nat.{suc, ◌-◌}
use native.Mathlib.Omega.{arith}
use Rattle.words_reading_size.proofs.CountingLaws.{item_refused, counts-W, counts-F, counts-B, counts-J}
use Rattle.words_reading_size.proofs.count_item.Goals as goal

pub returns-then-height-eq0 : goal.returns-then-height-eq0
returns-then-height-eq0 c = λ t o w. item_refused _ _ t o c.if-height-eq0.true _ w

pub returns-in-0 : goal.returns-in-0
returns-in-0 c = λ t o w. rw c.in-0.is (counts-W _ _ t o c.if-height-eq0.false w _ c.give.ensures)

pub returns-in-1 : goal.returns-in-1
returns-in-1 c = λ t o w. rw c.in-1.is (counts-F _ _ t o c.if-height-eq0.false w _ c.give-in-1.ensures)

pub returns-in-2 : goal.returns-in-2
returns-in-2 c = λ t o w. rw c.in-2.is (counts-B _ _ t o c.if-height-eq0.false w _ c.give-in-2.ensures)

pub returns-in_default : goal.returns-in_default
returns-in_default c =
    λ t o w.
    let item = c.args.item in
    let e : item ≡ suc (suc (suc (item - 3))) = omega arith in
    rw e (counts-J _ _ t o c.if-height-eq0.false (item - 3) w _ c.join.ensures)
