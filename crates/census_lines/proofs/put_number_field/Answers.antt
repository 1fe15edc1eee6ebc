-- A space, and then the number.
use Rattle.text_printing.proofs.Printing.{puts_then, puts-last}
use Rattle.census_lines.proofs.put_number_field.Goals as goal

pub returns : goal.returns
returns c = puts_then _ _ _ _ _ c.put_byte-next.ensures (puts-last _ _ _ c.put_number.ensures)
