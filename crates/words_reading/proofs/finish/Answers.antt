-- The end: 25, 9, or both lists filled with the first places of the arrays.
use mathlib.Core.Path.{refl}
use Rattle.words_reading.proofs.ReadingLaws.{end_refused, room-refused-black, room-refused-white, room-gave}
use Rattle.words_reading.proofs.finish.Goals as goal

pub returns-then-counts-ne0 : goal.returns-then-counts-ne0
returns-then-counts-ne0 c = λ nx pv t o. rw (end_refused _ _ _ _ _ _ t o c.if-counts-ne0.true) (refl, refl, refl)

pub returns-then-s0-n : goal.returns-then-s0-n
returns-then-s0-n c =
    λ nx pv t o.
    let a = c.args in
    rw (room-refused-black _ _ _ _ _ _ t o c.if-counts-ne0.false a.s0.now a.s1.now (rw c.to_index-n.ensures at c.if-s0-n.true)) (refl, refl, refl)

pub returns-then-s1-n : goal.returns-then-s1-n
returns-then-s1-n c =
    λ nx pv t o.
    let a = c.args in
    let e = c.to_index-n.ensures in
    rw (room-refused-white _ _ _ _ _ _ t o c.if-counts-ne0.false a.s0.now a.s1.now (rw e at c.if-s0-n.false) (rw e at c.if-s1-n.true)) (refl, refl, refl)

pub returns : goal.returns
returns c =
    λ nx pv t o.
    let a = c.args in
    let e = c.to_index-n.ensures in
    room-gave _ _ _ _ _ _ t o c.if-counts-ne0.false a.s0.now a.s1.now _ _ _ e (rw e at c.if-s0-n.false) (rw e at c.if-s1-n.false) c.fill.ensures c.fill-2.ensures
