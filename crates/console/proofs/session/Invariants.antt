-- `session` is safe: the line found last lies within the input.
use Rattle.std.proofs.Common.{◌≡◌, length}
use Rattle.console_lines.specs.Lines.{Within}
use Rattle.console.proofs.session.Given as goal

abbrev pub invariant-loop : goal.invariant-loop
invariant-loop g l = Within l.lines (length l.input) × (length l.input ≡ length l.initial.input) × (length l.out ≡ length l.initial.out)
