-- `diagram_at` refuses 31, 32 and 9 in this order, each by its test, and otherwise writes.
use native.Mathlib.Omega.{arith}
use Rattle.listing_ranking.proofs.Answers.{at_length}
use Rattle.listing_ranking.proofs.diagram_at.Goals as goal

pub overflow_cast-result : goal.overflow_cast-result
overflow_cast-result c = omega (arith, c.write_at.ensures.0, at_length c.args.n c.args.p (omega (arith, c.count_of.ensures)))
