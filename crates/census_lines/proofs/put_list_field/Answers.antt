-- A space, and then the list.
use Rattle.text_printing.proofs.Printing.{puts_then}
use Rattle.census_lines.proofs.put_list_field.Goals as goal

pub returns : goal.returns
returns c = puts_then _ _ _ _ _ c.put_byte-next.ensures (c.put_list.ensures)
