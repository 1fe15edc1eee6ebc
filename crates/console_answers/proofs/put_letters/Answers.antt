-- No letters, and some.
use mathlib.Core.Path.{sym, ◌∙◌}
use Rattle.console_answers.proofs.Answers.{letters-none, letters-some}
use borrow.Author.Rules.{rules}
use Rattle.console_answers.proofs.put_letters.Goals as goal

pub returns-then-letters-eq0 : goal.returns-then-letters-eq0
returns-then-letters-eq0 c = c.put_byte.ensures ∙ sym (letters-none _ _ c.if-letters-eq0.true)

pub returns : goal.returns
returns c = c.put_text.ensures ∙ sym (letters-some _ _ c.if-letters-eq0.false)
