-- The numbers, or nothing, by the cases of the answer.
use mathlib.Core.Path.{refl}
use Rattle.text_printing.specs.Printing.{put_all}
use Rattle.census_lines.specs.Lines.{measured_pieces}
use Rattle.census_lines.proofs.put_measured.Goals as goal

pub returns-in-Ok : goal.returns-in-Ok
unfolding measured_pieces
returns-in-Ok c = rw c.in-Ok.is c.put_numbers.ensures

pub returns-in-Err : goal.returns-in-Err
unfolding measured_pieces put_all
returns-in-Err c = rw c.in-Err.is refl
