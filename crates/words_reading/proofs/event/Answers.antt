-- One item: 26 where nothing is pending; otherwise the top is popped, and the item's event goes on from there.
use mathlib.Core.Path.{◌≡◌}
use Prim.Native.Nat.{suc, ◌-◌}
use native.Mathlib.Omega.{arith}
use Rattle.words_reading.proofs.ReadingLaws.{popped, popped-holds, item-met, item_refused, alone-closed}
use Rattle.words_reading.proofs.event.Goals as goal

pub returns-then-counts-eq0 : goal.returns-then-counts-eq0
returns-then-counts-eq0 c = λ t o w. item_refused _ _ _ _ _ _ t o c.if-counts-eq0.true _ w

pub add_triple-requires-clause-reading_held : goal.add_triple-requires-clause-reading_held
add_triple-requires-clause-reading_held c = let (t, o) = c.requires in (popped t, popped-holds _ _ _ _ _ _ t o _ _ (c.pop-k.ensures t.stack o.ring).1)

pub add_alone-requires-clause-by_index : goal.add_alone-requires-clause-by_index
add_alone-requires-clause-by_index c = let (t, o) = c.requires in (_, _, popped t, popped-holds _ _ _ _ _ _ t o _ _ (c.pop-k.ensures t.stack o.ring).1)

pub join_pending-requires-clause-by_index : goal.join_pending-requires-clause-by_index
join_pending-requires-clause-by_index c = let (t, o) = c.requires in (_, popped t, popped-holds _ _ _ _ _ _ t o _ _ (c.pop-k.ensures t.stack o.ring).1)

pub returns-in-0 : goal.returns-in-0
returns-in-0 c =
    λ t o w.
    let p = c.pop-k.ensures t.stack o.ring in
    rw (item-met _ _ _ _ _ _ t o c.args.item 0 _ w c.if-counts-eq0.false c.in-0.is p.0, c.close_alone.ensures)
    (popped t, popped-holds _ _ _ _ _ _ t o _ _ p.1, alone-closed _ _ _ _ _ _ t o _ w)

pub returns-in-1 : goal.returns-in-1
returns-in-1 c =
    λ t o w.
    let p = c.pop-k.ensures t.stack o.ring in
    rw (item-met _ _ _ _ _ _ t o c.args.item 1 _ w c.if-counts-eq0.false c.in-1.is p.0)
    (c.add_triple.ensures (popped t) (popped-holds _ _ _ _ _ _ t o _ _ p.1) w)

pub returns-in-2 : goal.returns-in-2
returns-in-2 c =
    λ t o w.
    let p = c.pop-k.ensures t.stack o.ring in
    rw (item-met _ _ _ _ _ _ t o c.args.item 2 _ w c.if-counts-eq0.false c.in-2.is p.0)
    (c.add_alone.ensures _ _ (popped t) (popped-holds _ _ _ _ _ _ t o _ _ p.1) w)

pub returns-in_default : goal.returns-in_default
returns-in_default c =
    λ t o w.
    let p = c.pop-k.ensures t.stack o.ring in
    let e : c.args.item ≡ suc (suc (suc (c.args.item - 3))) = omega arith in
    rw (item-met _ _ _ _ _ _ t o c.args.item (suc (suc (suc (c.args.item - 3)))) _ w c.if-counts-eq0.false e p.0)
    (c.join_pending.ensures _ (popped t) (popped-holds _ _ _ _ _ _ t o _ _ p.1) w)
