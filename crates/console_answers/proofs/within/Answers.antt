-- The tests of the two ends.
use Rattle.console_answers.proofs.Answers.{within-below, within-from}
use Rattle.console_answers.proofs.within.Goals as goal

pub returns-then-byte-first : goal.returns-then-byte-first
returns-then-byte-first c = within-below _ _ _ c.if-byte-first.true

pub returns : goal.returns
returns c = within-from _ _ _ c.if-byte-first.false
