-- A minus and the absolute value, or the absolute value alone.
use mathlib.Core.Path.{ap, ◌∙◌}
use mathlib.Core.Bool.{true, false}
use lib.IntN.{nat_abs}
use mir.Syntax.{w32}
use mir.ValLaws.{to_z-of_z}
use Rattle.text_printing.proofs.Signs.{tested, put-negative, put_other}
use Rattle.text_printing.proofs.put_signed.Goals as goal

pub returns-then-x-lt0 : goal.returns-then-x-lt0
returns-then-x-lt0 c = put-negative _ _ _ _ _ (tested _ c.ranges.x true c.if-x-lt0.true) (c.magnitude.ensures ∙ ap nat_abs (to_z-of_z w32 _ c.ranges.x)) c.put_byte-next.ensures c.put_number.ensures

pub returns : goal.returns
returns c = put_other _ _ _ _ (tested _ c.ranges.x false c.if-x-lt0.false) (c.magnitude-2.ensures ∙ ap nat_abs (to_z-of_z w32 _ c.ranges.x)) c.put_number-2.ensures
