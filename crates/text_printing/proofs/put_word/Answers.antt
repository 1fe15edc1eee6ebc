-- The answer of `letters` on the part from the place on, by cases.
use Rattle.text_printing.proofs.Words.{word-beyond, put-letters, put-none}
use Rattle.text_printing.proofs.put_word.Goals as goal

pub returns-then-out-place : goal.returns-then-out-place
returns-then-out-place c = word-beyond _ _ _ c.if-out-place.true

pub returns-in-Ok : goal.returns-in-Ok
returns-in-Ok c = put-letters _ _ c.if-out-place.false _ _ _ _ c.in-Ok.is c.letters.ensures

pub returns-in-Err : goal.returns-in-Err
returns-in-Err c = put-none _ _ c.if-out-place.false _ _ _ _ c.in-Err.is c.letters.ensures
