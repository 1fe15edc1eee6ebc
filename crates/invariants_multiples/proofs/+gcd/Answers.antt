-- b and the rest of a by b have the same common divisors as a and b.
use Rattle.invariants_multiples.proofs.Divisors.{gcd-zero, gcd-step}
use Rattle.invariants_multiples.proofs.+gcd.Goals as goal

pub returns-then-b-eq0 : goal.returns-then-b-eq0
returns-then-b-eq0 t c = rw c.if-b-eq0.true (gcd-zero c.args.a c.requires)

pub returns-else-b-eq0 : goal.returns-else-b-eq0
returns-else-b-eq0 t c = gcd-step c.args.a c.args.b c.gcd.result c.gcd.ensures
