-- The text of the mark, by its test.
use Rattle.census_lines.proofs.Lines.{mark-kept, mark-other}
use Rattle.census_lines.proofs.put_mark.Goals as goal

pub returns-then-mark-eq1 : goal.returns-then-mark-eq1
returns-then-mark-eq1 c = mark-kept _ _ _ c.if-mark-eq1.true c.put_text.ensures

pub returns : goal.returns
returns c = mark-other _ _ _ c.if-mark-eq1.false c.put_text-2.ensures
