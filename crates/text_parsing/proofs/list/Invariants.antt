-- No more entries are written than there is room for.
use Rattle.std.proofs.Common.{◌≡◌, ◌≤◌, length}
use Rattle.text_parsing.proofs.list.Given as goal

abbrev pub invariant-loop-part : goal.invariant-loop-part
invariant-loop-part l = (l.length ≤ length l.out) × (length l.out ≡ length l.initial.out)
