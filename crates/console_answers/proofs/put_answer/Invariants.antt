-- Byte by byte: what is left to print is what the bytes to come stand for.
use mathlib.Core.Path.{◌≡◌, refl, sym, ap, ◌∙◌}
use Prim.Native.Nat.{◌-◌}
use lib.ListN.{length, drop}
use Rattle.text_printing.specs.Printing.{output, put_all}
use Rattle.console_answers.specs.Answers.{lists, answer_pieces}
use Rattle.console_answers.proofs.Answers.{answer-more, answer-past}
use borrow.Author.Rules.{rules}
use Rattle.console_answers.proofs.put_answer.Given as goal

abbrev pub invariant-loop-byte : goal.invariant-loop-byte
invariant-loop-byte l = (length l.out ≡ length l.initial.out) × (put_all (answer_pieces l.reply (lists l.s0 l.s1 l.words l.lengths l.bytes) (drop l.byte-index l.text)) (output l.out l.next) ≡ put_all (answer_pieces l.reply (lists l.s0 l.s1 l.words l.lengths l.bytes) l.text) (output l.initial.out l.place))
