-- `locate_cell` answers 61 for a length above 51 and for a tail with a number in it, and else what locating the word answers.
use mathlib.Core.Path.{sym, ◌∙◌}
use Rattle.sheet_cell.proofs.Locating.{answered-long, answered-marked, answered-read}
use Rattle.sheet_cell.proofs.locate_cell.Goals as goal

pub returns-then-items : goal.returns-then-items
returns-then-items c = answered-long c.args.numbers.now _ c.to_index-items.ensures c.if-items.true

pub returns-then-is_blank : goal.returns-then-is_blank
returns-then-is_blank c = c.locate.ensures ∙ answered-read c.args.numbers.now _ c.to_index-items.ensures c.if-items.false c.requires (sym c.if-is_blank.true ∙ c.is_blank.ensures)

pub returns : goal.returns
returns c = answered-marked c.args.numbers.now _ c.to_index-items.ensures c.if-items.false c.requires (sym c.if-is_blank.false ∙ c.is_blank.ensures)
