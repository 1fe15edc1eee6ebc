-- The parts of a line, one after another.
use Rattle.text_printing.proofs.Printing.{puts_then, puts-last, put-all-then}
use Rattle.census_lines.specs.Lines.{line_pieces}
use Rattle.census_lines.proofs.put_line.Goals as goal

pub returns : goal.returns
unfolding line_pieces
returns c = put-all-then _ _ _ _ _ (puts-last _ _ _ c.put_number-space.ensures) (put-all-then _ _ _ _ _ (puts_then _ _ _ _ _ c.put_byte-letters.ensures c.put_word-black.ensures) (put-all-then _ _ _ _ _ c.put_list_field-white.ensures (put-all-then _ _ _ _ _ c.put_list_field-numbers.ensures (put-all-then _ _ _ _ _ c.put_measured-end.ensures (puts-last _ _ _ c.put_mark.ensures)))))
