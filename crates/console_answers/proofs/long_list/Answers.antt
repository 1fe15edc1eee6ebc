-- A part of 32 numbers.
use Rattle.console_answers.proofs.Answers.{long-part}
use borrow.Author.Rules.{rules}
use Rattle.console_answers.proofs.long_list.Goals as goal

pub returns : goal.returns
returns c = long-part c.args.k _
