-- The five numbers, one field after another.
use Rattle.text_printing.proofs.Printing.{puts_then, put-all-then}
use Rattle.census_lines.proofs.Lines.{signed_same}
use Rattle.census_lines.specs.Lines.{numbers_pieces}
use mir.Syntax.{w32}
use mir.ValLaws.{to_z-of_z}
use Rattle.census_lines.proofs.put_numbers.Goals as goal

pub returns : goal.returns
unfolding numbers_pieces
returns c = put-all-then _ _ _ _ _ c.put_number_field-second.ensures (put-all-then _ _ _ _ _ c.put_number_field-third.ensures (put-all-then _ _ _ _ _ c.put_number_field-fourth.ensures (put-all-then _ _ _ _ _ (puts_then _ _ _ _ _ c.put_byte-sign.ensures (signed_same _ _ _ _ (to_z-of_z w32 _ record { sfits = c.struct_told-1.given.1.1.1.0.1 }) c.put_signed-last.ensures)) (c.put_number_field.ensures))))
