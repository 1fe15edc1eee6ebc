-- A long list, a number, the signed number, and a byte that stands for itself.
use mathlib.Core.Path.{sym, ◌∙◌}
use native.Mathlib.Omega.{arith}
use mir.Syntax.{w32}
use mir.ValLaws.{to_z-of_z}
use Rattle.console_answers.proofs.Answers.{within_both, put-long, put-decimal, put-sign, put-itself}
use borrow.Author.Rules.{rules}
use Rattle.console_answers.proofs.put_numbers.Goals as goal

pub overflow_sub-byte : goal.overflow_sub-byte
overflow_sub-byte c = (within_both _ _ _ (sym c.within.ensures ∙ c.if-within.true)).0

pub long_list-requires : goal.long_list-requires
long_list-requires c = let h = (within_both _ _ _ (sym c.within.ensures ∙ c.if-within.true)).1 in omega arith

pub returns-then-within : goal.returns-then-within
returns-then-within c = put-long _ _ _ _ (sym c.within.ensures ∙ c.if-within.true) _ c.long_list.ensures c.put_long_list.ensures

pub overflow_sub-k : goal.overflow_sub-k
overflow_sub-k c = (within_both _ _ _ (sym c.within-2.ensures ∙ c.if-within-2.true)).0

pub bounds-numbers-k : goal.bounds-numbers-k
bounds-numbers-k c = let h = (within_both _ _ _ (sym c.within-2.ensures ∙ c.if-within-2.true)).1 in omega arith

pub returns-then-within-2 : goal.returns-then-within-2
returns-then-within-2 c = put-decimal _ _ _ _ (sym c.within.ensures ∙ c.if-within.false) (sym c.within-2.ensures ∙ c.if-within-2.true) c.put_number.ensures

pub returns-then-byte-eq43 : goal.returns-then-byte-eq43
returns-then-byte-eq43 c = put-sign _ _ _ _ (sym c.within.ensures ∙ c.if-within.false) (sym c.within-2.ensures ∙ c.if-within-2.false) c.if-byte-eq43.true _ (to_z-of_z w32 _ record { sfits = c.struct_told-1.given.1.1.0.1 }) c.put_signed.ensures

pub returns : goal.returns
returns c = put-itself _ _ _ _ (sym c.within.ensures ∙ c.if-within.false) (sym c.within-2.ensures ∙ c.if-within-2.false) c.if-byte-eq43.false c.put_byte.ensures
