-- The letters of an event written: a store, or a J and then its decimal.
use native.Mathlib.Omega.{arith}
use Rattle.words_decimals.proofs.Writing.{wrote-byte}
use Rattle.words_letters.proofs.Lettering.{event-one, wrote-jump}
use Rattle.words_letters.proofs.put_event.Goals as goal

pub returns-then-x-lt3 : goal.returns-then-x-lt3
returns-then-x-lt3 c = rw c.event_letter.ensures (wrote-byte _ _ _ (omega (arith, event-one c.args.x c.if-x-lt3.true)))

pub returns : goal.returns
returns c = wrote-jump _ _ _ _ _ c.if-x-lt3.false c.requires c.put_decimal.ensures
