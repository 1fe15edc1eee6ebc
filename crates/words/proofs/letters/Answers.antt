-- The answer by cases: no item, a first item without a letter, and otherwise that of `put_letters`.
use Rattle.words.proofs.Lettering.{lettering-none}
use Rattle.words.proofs.letters.Goals as goal

pub returns-then-word-eq0 : goal.returns-then-word-eq0
returns-then-word-eq0 c = lettering-none _ _ c.if-word-eq0.true
