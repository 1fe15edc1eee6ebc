-- `summary` is safe: the text ends with the comma and the space that are left out.
use mathlib.Core.List.{[], ◌∷◌}
use native.Mathlib.Omega.{arith}
use borrow.Author.Rules.{rules}
use Rattle.census_summary.proofs.Lines.{behind-within}
use Rattle.console_diagrams.proofs.word_calls.summary.Goals as goal

pub overflow_sub-end : goal.overflow_sub-end
overflow_sub-end c = omega (arith, behind-within (44 ∷ 32 ∷ []), c.put_summary-end.ensures.next)
