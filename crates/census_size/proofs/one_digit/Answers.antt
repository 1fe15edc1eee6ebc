-- A byte that is no newline, and a byte below 1 or above 9, is in no input that names a size; the others are.
use native.Mathlib.Omega.{arith}
use Rattle.census_size.proofs.Sizes.{one-named, one_none}
use Rattle.census_size.proofs.one_digit.Goals as goal

pub returns-then-digit-lt49 : goal.returns-then-digit-lt49
returns-then-digit-lt49 c = one_none _ _ (λ n l s p q. omega arith)

pub returns-then-digit-gt57 : goal.returns-then-digit-gt57
returns-then-digit-gt57 c = one_none _ _ (λ n l s p q. omega arith)

pub returns : goal.returns
returns c = one-named _ _ _ (omega arith) (omega arith) (omega arith) (omega arith)
