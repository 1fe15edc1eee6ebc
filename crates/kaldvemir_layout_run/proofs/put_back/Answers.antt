-- `put_back` meets its contract: the two numbers and the items in their places.
use Rattle.kaldvemir_layout_run.proofs.Rows.{run_row}
use mathlib.Core.Path.{◌∙◌}
use borrow.Author.Rules.{rules}
use Rattle.kaldvemir_layout_run.proofs.put_back.Goals as goal

pub returns : goal.returns
returns c = c.put_items.ensures ∙ run_row c.args.numbers.now c.args.items c.args.stage c.args.len c.requires (search rules)
