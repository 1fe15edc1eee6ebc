-- Byte by byte: what is left to print is what the bytes to come stand for.
use mathlib.Core.Path.{◌≡◌, refl, sym, ap, ◌∙◌}
use Prim.Native.Nat.{◌-◌}
use lib.ListN.{length, drop}
use Rattle.text_printing.specs.Printing.{output, put_all}
use Rattle.console_answers.specs.Answers.{lists, answer_pieces}
use Rattle.console_answers.proofs.Answers.{answer-more, answer-past}
use borrow.Author.Rules.{rules}
use Rattle.console_answers.proofs.put_answer.Goals as goal

pub loop-byte-preserved : goal.loop-byte-preserved
loop-byte-preserved c = (search rules, ap (put_all _) c.put_field-next.ensures ∙ answer-more _ _ _ _ _ c.loop-byte-test.true ∙ c.loop-byte.invariant.1)

pub returns : goal.returns
returns c = sym (answer-past _ _ _ _ _ c.loop-byte-test.false) ∙ c.loop-byte.invariant.1
