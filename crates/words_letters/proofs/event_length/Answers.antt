-- An event has one letter, or one more than its number has digits.
use Rattle.std.proofs.Common.{◌-◌, arith}
use Rattle.words_decimals.proofs.Decimal.{decimal-length}
use Rattle.words_letters.proofs.event_length.Goals as goal

pub overflow_add-result : goal.overflow_add-result
overflow_add-result c = omega (arith, decimal-length (c.args.x - 3))
