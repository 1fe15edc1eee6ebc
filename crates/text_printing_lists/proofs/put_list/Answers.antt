-- The first entry, and then the others each after a comma: what is left to print is the entries to come.
use mathlib.Core.Path.{sym, ap, ◌∙◌}
use native.Mathlib.Omega.{arith}
use Rattle.text_printing_pieces.specs.Pieces.{put_all}
use Rattle.text_printing_lists.proofs.Lists.{list-none, list-first, entries-more, entries-past}
use borrow.Author.Rules.{rules}
use Rattle.text_printing_lists.proofs.put_list.Goals as goal

pub returns-then-list-eq0 : goal.returns-then-list-eq0
returns-then-list-eq0 c = c.put_byte.ensures ∙ sym (list-none _ _ c.if-list-eq0.true)

pub loop-x-preserved : goal.loop-x-preserved
loop-x-preserved c = (search rules, ap (put_all _) c.put_entry-next.ensures ∙ entries-more _ _ _ c.loop-x-test.true ∙ c.loop-x.invariant.1)

pub returns : goal.returns
returns c = sym (entries-past _ _ _ c.loop-x-test.false) ∙ c.loop-x.invariant.1 ∙ ap (put_all _) c.put_number-next.ensures ∙ list-first _ _ (omega arith)
