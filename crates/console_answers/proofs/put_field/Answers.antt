-- An output list of numbers, that of bytes, the first of the reply's numbers, and any other field.
use mathlib.Core.Path.{sym, ◌∙◌}
use native.Mathlib.Omega.{arith}
use Rattle.console_answers.proofs.Answers.{within_both, put_entries, put-list-of-bytes, put-first-numbers, put_other}
use borrow.Author.Rules.{rules}
use Rattle.console_answers.proofs.put_field.Goals as goal

pub overflow_sub-k : goal.overflow_sub-k
overflow_sub-k c = (within_both _ _ _ (sym c.within.ensures ∙ c.if-within.true)).0

pub bounds-counts-k : goal.bounds-counts-k
bounds-counts-k c = let h = (within_both _ _ _ (sym c.within.ensures ∙ c.if-within.true)).1 in omega arith

pub output_list-requires : goal.output_list-requires
output_list-requires c = let h = (within_both _ _ _ (sym c.within.ensures ∙ c.if-within.true)).1 in omega arith

pub returns-then-within : goal.returns-then-within
returns-then-within c = put_entries _ _ _ _ _ (sym c.within.ensures ∙ c.if-within.true) _ _ c.output_list.ensures c.first_entries.ensures c.put_list.ensures

pub returns-then-within-2 : goal.returns-then-within-2
returns-then-within-2 c = put-list-of-bytes _ _ _ _ _ (sym c.within.ensures ∙ c.if-within.false) (sym c.within-2.ensures ∙ c.if-within-2.true) _ c.first_bytes.ensures c.put_bytes.ensures

pub returns-then-byte-eq57 : goal.returns-then-byte-eq57
returns-then-byte-eq57 c = put-first-numbers _ _ _ _ _ (sym c.within.ensures ∙ c.if-within.false) (sym c.within-2.ensures ∙ c.if-within-2.false) c.if-byte-eq57.true _ c.first_numbers.ensures c.put_long_list.ensures

pub returns : goal.returns
returns c = put_other _ _ _ _ _ (sym c.within.ensures ∙ c.if-within.false) (sym c.within-2.ensures ∙ c.if-within-2.false) c.if-byte-eq57.false c.put_numbers.ensures
