-- Without the second digit the bytes name the tens, or nothing; then the second digit decides.
use native.Mathlib.Omega.{arith}
use Rattle.census_size.proofs.Sizes.{two-named, two_none, two-without}
use Rattle.census_size.proofs.two_digits.Goals as goal

pub returns-then-tens-eq0 : goal.returns-then-tens-eq0
returns-then-tens-eq0 c = two-without _ _ _ _ c.one_digit-tens.ensures c.if-tens-eq0.true

pub returns-then-second-lt48 : goal.returns-then-second-lt48
returns-then-second-lt48 c = two_none _ _ _ (λ n h m p. omega arith)

pub returns-then-second-gt57 : goal.returns-then-second-gt57
returns-then-second-gt57 c = two_none _ _ _ (λ n h m p. omega arith)

pub returns : goal.returns
returns c = two-named _ _ _ _ c.one_digit-tens.ensures (omega arith) (omega arith) (omega arith) _ (omega arith)
