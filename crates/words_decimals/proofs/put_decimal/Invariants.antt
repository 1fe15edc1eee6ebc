-- The digits are written from the last to the first: what is left to write is a smaller decimal at the same place (`Left`).
use Rattle.words_decimals.proofs.Decimal.{Left}
use Rattle.words_decimals.proofs.put_decimal.Given as goal

abbrev pub invariant-loop-x : goal.invariant-loop-x
invariant-loop-x l = Left l.initial.out l.place l.m l.out l.end l.x

abbrev pub decreases-loop-x : goal.decreases-loop-x
decreases-loop-x l = l.x
