-- B: refused 24 where the label is above 1,024; otherwise the stores are those of `alone-stands`.
use Rattle.words_reading_events.proofs.EventLaws.{alone-refused, alone-stands}
use Rattle.words_reading_events.proofs.add_alone.Goals as goal

pub returns-then-used : goal.returns-then-used
returns-then-used c = λ nx pv t o w. alone-refused nx pv _ _ _ _ t o _ w c.if-used.true

pub returns : goal.returns
returns c = λ nx pv t o w. alone-stands nx pv _ _ _ _ t o _ w _ _ c.requires.one_to c.if-used.false c.to_index-place.ensures c.pair.ensures
