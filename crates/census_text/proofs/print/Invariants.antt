-- `print` is safe and ends: what is left falls with each part.
use Rattle.std.proofs.Common.{◌≡◌, length}
use Rattle.census_parts.specs.Parts.{InProgress, left}
use Rattle.census_text.proofs.print.Given as goal

abbrev pub invariant-loop-progress : goal.invariant-loop-progress
invariant-loop-progress g l = InProgress l.progress × (length l.out ≡ length l.initial.out)

abbrev pub decreases-loop-progress : goal.decreases-loop-progress
decreases-loop-progress g l = left l.progress
