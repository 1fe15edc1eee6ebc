-- F: refused 24 where the last of the three labels is above 1,024; otherwise the arrays and the ring are those of `triple-stands`.
use native.Mathlib.Omega.{arith}
use Rattle.pending_ring.proofs.Laws.{ring-few}
use Rattle.words_reading_events.proofs.EventLaws.{fresh, triple-refused, triple-stands}
use Rattle.words_reading_events.proofs.add_triple.Goals as goal

pub returns-then-used : goal.returns-then-used
returns-then-used c = λ t o w. triple-refused _ _ _ _ _ _ t o _ w c.if-used.true

pub push_two-requires-clause-by_index : goal.push_two-requires-clause-by_index
push_two-requires-clause-by_index c = let (t, o) = c.requires.reading_held in (t.stack, o.ring, fresh _ _ _ _ _ _ t o _ (omega arith))

pub overflow_add-result-2 : goal.overflow_add-result-2
overflow_add-result-2 c = let (t, o) = c.requires.reading_held in omega (arith, ring-few _ _ _ o.ring, o.high)

pub returns : goal.returns
returns c =
    λ t o w.
    let p = c.requires in
    let g = c.give_three.ensures in
    triple-stands _ _ _ _ _ _ t o _ w _ _ _ _ p.one_to c.if-used.false g.0 g.1
    (c.push_two.ensures t.stack o.ring (fresh _ _ _ _ _ _ t o _ (omega arith)) (fresh _ _ _ _ _ _ t o _ (omega arith)))
