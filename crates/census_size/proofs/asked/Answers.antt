-- No byte asks for the summary; otherwise count decides of the size that the input names.
use native.Mathlib.Omega.{arith}
use Rattle.census_size.proofs.Sizes.{refusal-asked}
use Rattle.census_size.proofs.asked.Goals as goal

pub returns-in-Err : goal.returns-in-Err
returns-in-Err c = (refusal-asked _ _ _ (λ z. omega arith) c.named_size-size.ensures c.in-Err.ensures)
